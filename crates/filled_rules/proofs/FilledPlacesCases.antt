-- The check of one superblock's marks and filled places, in cases that tell it from near misses, by computation. Assumes nothing.
use mathlib.Core.Path.{◌≡◌, refl}
use mathlib.Core.Bool.{Bool, true, false}
use mathlib.Core.List.{List, [], ◌∷◌, ◌++◌, map}
use Prim.Native.Nat.{ℕ, ◌-◌, ◌^◌}
use lib.ListN.{replicate}
use Rattle.base_laws.specs.Sums.{sum_below, all_below}
use Rattle.marks_rules.specs.Marks.{bit, mark_bit, is_marked, live_count, no_mark_from}
use Rattle.order_rules.specs.Order.{place}
use Rattle.filled_rules.specs.FilledPlaces.{occurrences, places_in_storage, each_once, places_valid}

-- Superblock 1 of five blocks, blocks 1 and 3 live: its first three places hold 0, 2 and 4, in any order, whatever stands elsewhere.
-- What its places hold, and whether that is valid.
abbrev pub places_and_validity : List (List ℕ × Bool)
places_and_validity =
    (4 ∷ 0 ∷ 2 ∷ 9 ∷ 9 ∷ [], true)
    ∷ (0 ∷ 2 ∷ 4 ∷ 1 ∷ 3 ∷ [], true)
    ∷ (4 ∷ 0 ∷ 2 ∷ [], true)
    -- too few are lent, also where the one that is not would read as block 0
    ∷ (4 ∷ 0 ∷ [], false)
    ∷ (4 ∷ 2 ∷ [], false)
    -- one free block twice, and one not at all
    ∷ (4 ∷ 0 ∷ 0 ∷ 2 ∷ 2 ∷ [], false)
    -- a live block
    ∷ (4 ∷ 0 ∷ 1 ∷ 2 ∷ 3 ∷ [], false)
    -- no block of this superblock
    ∷ (4 ∷ 0 ∷ 5 ∷ 2 ∷ 9 ∷ [], false)
    -- a free block past the filled places
    ∷ (4 ∷ 0 ∷ 9 ∷ 2 ∷ 9 ∷ [], false)
    ∷ []

abbrev pub two_live_of_five : List ℕ
two_live_of_five = 10 ∷ 0 ∷ 0 ∷ 0 ∷ []

pub places_valid_cases : map (λ (e : List ℕ × Bool). places_valid (replicate 256 7 ++ e.0) two_live_of_five 1 5) places_and_validity
    ≡ map (λ (e : List ℕ × Bool). e.1) places_and_validity
unfolding places_valid places_in_storage each_once occurrences place no_mark_from live_count is_marked mark_bit bit sum_below all_below
places_valid_cases = refl

-- "no mark at n or above": blocks 1, 3 and 4 live, of five and of four; block 255 live; all five live, and the next one
pub marks_past_n_cases :
    map (λ (e : List ℕ × ℕ). places_valid (replicate 256 7 ++ 0 ∷ 2 ∷ 9 ∷ []) e.0 1 e.1) ((26 ∷ 0 ∷ 0 ∷ 0 ∷ [], 5) ∷ (26 ∷ 0 ∷ 0 ∷ 0 ∷ [], 4)
    ∷ (10 ∷ 0 ∷ 0 ∷ 2 ^ 63 ∷ [], 5) ∷ (63 ∷ 0 ∷ 0 ∷ 0 ∷ [], 5) ∷ [])
    ≡ true ∷ false ∷ false ∷ false ∷ []
unfolding places_valid places_in_storage each_once occurrences place no_mark_from live_count is_marked mark_bit bit sum_below all_below
marks_past_n_cases = refl

-- all live: no place is filled, and none need be lent
pub all_live_case : places_valid [] (31 ∷ 0 ∷ 0 ∷ 0 ∷ []) 0 5 ≡ true
unfolding places_valid places_in_storage each_once occurrences place no_mark_from live_count is_marked mark_bit bit sum_below all_below
all_live_case = refl

-- marks beyond the first number: of 256 blocks all are live but 3, 70, 130 and 255, and superblock 0's first four places hold these; then a live
-- block of each number instead of a free one, a free one twice, and all but one of them
abbrev pub four_free_of_256 : List ℕ
four_free_of_256 = (2 ^ 64 - 9) ∷ (2 ^ 64 - 65) ∷ (2 ^ 64 - 5) ∷ (2 ^ 63 - 1) ∷ []

pub places_past_64_cases :
    map (λ (places : List ℕ). places_valid places four_free_of_256 0 256)
    ((255 ∷ 70 ∷ 3 ∷ 130 ∷ []) ∷ (255 ∷ 70 ∷ 4 ∷ 130 ∷ []) ∷ (255 ∷ 71 ∷ 3 ∷ 130 ∷ []) ∷ (255 ∷ 70 ∷ 3 ∷ 131 ∷ []) ∷ (254 ∷ 70 ∷ 3 ∷ 130 ∷ [])
    ∷ (255 ∷ 70 ∷ 70 ∷ 130 ∷ []) ∷ (255 ∷ 255 ∷ 3 ∷ 130 ∷ []) ∷ (255 ∷ 70 ∷ 3 ∷ []) ∷ [])
    ≡ true ∷ replicate 7 false
unfolding places_valid places_in_storage each_once occurrences place no_mark_from live_count is_marked mark_bit bit sum_below all_below
places_past_64_cases = refl
