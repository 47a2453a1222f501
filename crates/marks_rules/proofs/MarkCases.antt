-- Marks in cases that tell the definitions from near misses, by computation. Assumes nothing.
use mathlib.Core.Path.{◌≡◌, refl}
use mathlib.Core.Bool.{Bool, true, false}
use mathlib.Core.List.{List, [], ◌∷◌, map}
use Prim.Native.Nat.{ℕ, ◌+◌, ◌-◌, ◌^◌}
use Rattle.base_laws.specs.Sums.{sum_below, all_below}
use Rattle.marks_rules.specs.Marks.{bit, mark_bit, is_marked, with_mark, without_mark, no_marks, live_count, no_mark_from}

-- blocks 0, 2, 63, 65, 190 and 255 are live
abbrev pub six_live : List ℕ
six_live = (2 ^ 63 + 5) ∷ 2 ∷ 2 ^ 62 ∷ 2 ^ 63 ∷ []

-- "Block j is bit j mod 64, counted from the lowest, of number j / 64 rounded down."
abbrev pub expected_marks : List (ℕ × Bool)
expected_marks =
    (0, true) ∷ (1, false) ∷ (2, true) ∷ (3, false) ∷ (62, false) ∷ (63, true) ∷ (64, false) ∷ (65, true) ∷ (66, false) ∷ (127, false) ∷ (128, false)
    ∷ (189, false) ∷ (190, true) ∷ (191, false) ∷ (192, false) ∷ (254, false) ∷ (255, true) ∷ (256, false) ∷ []

pub mark_cases : map (λ (e : ℕ × Bool). (e.0, is_marked six_live e.0)) expected_marks ≡ expected_marks
unfolding is_marked mark_bit bit
mark_cases = refl

-- "The live count of a superblock is the number of its set marks."
pub live_count_cases :
    map live_count (six_live ∷ no_marks ∷ ((2 ^ 64 - 1) ∷ (2 ^ 64 - 1) ∷ (2 ^ 64 - 1) ∷ (2 ^ 64 - 1) ∷ []) ∷ (0 ∷ 0 ∷ 0 ∷ 2 ^ 63 ∷ [])
    ∷ (1 ∷ 0 ∷ 0 ∷ 0 ∷ []) ∷ [])
    ≡ 6 ∷ 0 ∷ 256 ∷ 1 ∷ 1 ∷ []
unfolding live_count sum_below mark_bit bit
live_count_cases = refl

-- block 129 becomes live; block 63 is so already; there is no block 256
pub with_mark_cases :
    map (with_mark six_live) (129 ∷ 63 ∷ 256 ∷ [])
    ≡ ((2 ^ 63 + 5) ∷ 2 ∷ (2 ^ 62 + 2) ∷ 2 ^ 63 ∷ []) ∷ six_live ∷ six_live ∷ []
unfolding with_mark
with_mark_cases = refl

-- blocks 2 and 255 are no longer live; block 1 was not; there is no block 256
pub without_mark_cases :
    map (without_mark six_live) (2 ∷ 255 ∷ 1 ∷ 256 ∷ [])
    ≡ ((2 ^ 63 + 1) ∷ 2 ∷ 2 ^ 62 ∷ 2 ^ 63 ∷ []) ∷ ((2 ^ 63 + 5) ∷ 2 ∷ 2 ^ 62 ∷ 0 ∷ []) ∷ six_live ∷ six_live ∷ []
unfolding without_mark
without_mark_cases = refl

-- the first and the last block of a number, each beside the other: blocks 0, 63, 64, 127, 128, 191, 192 and 255 become live in turn, and then are no
-- longer live, of all eight
abbrev pub ends_of_numbers : List ℕ
ends_of_numbers = 0 ∷ 63 ∷ 64 ∷ 127 ∷ 128 ∷ 191 ∷ 192 ∷ 255 ∷ []

pub marks_at_ends_cases :
    map (with_mark no_marks) ends_of_numbers
    ≡ (1 ∷ 0 ∷ 0 ∷ 0 ∷ []) ∷ (2 ^ 63 ∷ 0 ∷ 0 ∷ 0 ∷ []) ∷ (0 ∷ 1 ∷ 0 ∷ 0 ∷ []) ∷ (0 ∷ 2 ^ 63 ∷ 0 ∷ 0 ∷ []) ∷ (0 ∷ 0 ∷ 1 ∷ 0 ∷ [])
    ∷ (0 ∷ 0 ∷ 2 ^ 63 ∷ 0 ∷ []) ∷ (0 ∷ 0 ∷ 0 ∷ 1 ∷ []) ∷ (0 ∷ 0 ∷ 0 ∷ 2 ^ 63 ∷ []) ∷ []
    × map (without_mark ((2 ^ 63 + 1) ∷ (2 ^ 63 + 1) ∷ (2 ^ 63 + 1) ∷ (2 ^ 63 + 1) ∷ [])) ends_of_numbers
    ≡ (2 ^ 63 ∷ (2 ^ 63 + 1) ∷ (2 ^ 63 + 1) ∷ (2 ^ 63 + 1) ∷ []) ∷ (1 ∷ (2 ^ 63 + 1) ∷ (2 ^ 63 + 1) ∷ (2 ^ 63 + 1) ∷ [])
    ∷ ((2 ^ 63 + 1) ∷ 2 ^ 63 ∷ (2 ^ 63 + 1) ∷ (2 ^ 63 + 1) ∷ []) ∷ ((2 ^ 63 + 1) ∷ 1 ∷ (2 ^ 63 + 1) ∷ (2 ^ 63 + 1) ∷ [])
    ∷ ((2 ^ 63 + 1) ∷ (2 ^ 63 + 1) ∷ 2 ^ 63 ∷ (2 ^ 63 + 1) ∷ []) ∷ ((2 ^ 63 + 1) ∷ (2 ^ 63 + 1) ∷ 1 ∷ (2 ^ 63 + 1) ∷ [])
    ∷ ((2 ^ 63 + 1) ∷ (2 ^ 63 + 1) ∷ (2 ^ 63 + 1) ∷ 2 ^ 63 ∷ []) ∷ ((2 ^ 63 + 1) ∷ (2 ^ 63 + 1) ∷ (2 ^ 63 + 1) ∷ 1 ∷ []) ∷ []
unfolding with_mark without_mark
marks_at_ends_cases = (refl, refl)

-- "no mark at n or above": the highest mark is 255's, and without it 190's
pub no_mark_from_cases :
    map (no_mark_from six_live) (256 ∷ 255 ∷ 0 ∷ []) ≡ true ∷ false ∷ false ∷ []
    × map (no_mark_from (without_mark six_live 255)) (192 ∷ 191 ∷ 190 ∷ []) ≡ true ∷ true ∷ false ∷ []
    × map (no_mark_from no_marks) (1 ∷ 0 ∷ []) ≡ true ∷ true ∷ []
unfolding no_mark_from all_below is_marked mark_bit bit without_mark
no_mark_from_cases = (refl, refl, refl)
