-- The choices of a superblock in cases that tell them from near misses, by computation. Assumes nothing.
use Rattle.std.specs.Prelude.{Some, None}
use mathlib.Core.Path.{◌≡◌, refl}
use mathlib.Core.List.{[], ◌∷◌, ◌++◌, map}
use Prim.Native.Nat.{ℕ}
use lib.ListN.{replicate}
use Rattle.base_laws.proofs.Stages.{◌also◌}
use Rattle.base_laws.specs.Sums.{sum_below}
use Rattle.class_rules.specs.Classes.{counts, blocks_of}
use Rattle.marks_rules.specs.Marks.{bit, mark_bit, live_count}
use Rattle.heap_rules.specs.declared.State.{State}
use Rattle.heap_rules.specs.Table.{unused, is_unused}
use Rattle.heap_rules.specs.Counts.{belongs}
use Rattle.heap_rules.specs.Ranks.{is_ranked, is_more_recent}
use Rattle.choice_rules.specs.Choice.{prefer, chosen_below, more_live, fuller_or_more_recent, fewer_live, never_preferred, has_free, empty_in_global, fullest}
use Rattle.choice_rules.specs.Choice.{lowest_empty, lowest_unused, emptiest, or_else}
use Rattle.heap_rules.proofs.TableCases.{of, ranked}
use Rattle.heap_rules.proofs.CaseStates.{unnamed_state}

-- N, and the superblocks: of class 16, with 10 blocks, heap 2 has a full one; heap 1 has 4, 10, 6, 6, 2 and 2 live, in that order.
-- Heap 0 has one of class 18 with 1 live, then empty ones of classes 17, 16, 16.
abbrev pub choice_state : ℕ → State
choice_state n =
    unnamed_state (record { processors = 2; superblocks = n; spare = 1; p = 3; q = 7 }) (of 2 16 1023 ∷ of 1 16 15 ∷ of 1 16 1023 ∷ of 0 18 4 ∷ of 1 16 63
    ∷ of 1 16 126 ∷ of 1 17 0 ∷ of 0 17 0 ∷ of 0 16 0 ∷ of 0 16 0 ∷ unused
    ∷ of 1 16 3 ∷ of 1 16 6 ∷ unused ∷ replicate 49 unused ++ of 2 17 7 ∷ [])

-- "heap i's class-c superblock with the fewest live, the lower number among equals"; a full one too; none past the last of the table, in heap 0 and class 0
pub emptiest_cases :
    emptiest 1 16 (choice_state 64) ∷ emptiest 2 16 (choice_state 64) ∷ emptiest 0 16 (choice_state 64) ∷ emptiest 2 17 (choice_state 64)
    ∷ emptiest 2 18 (choice_state 64) ∷ emptiest 0 0 (choice_state 64) ∷ []
    ≡ Some 11 ∷ Some 0 ∷ Some 8 ∷ Some 63 ∷ None ∷ None ∷ []
unfolding emptiest chosen_below prefer fewer_live more_live is_more_recent is_ranked belongs live_count sum_below mark_bit bit
emptiest_cases = refl

-- "The emptiest for a move is still chosen by number": of heap 1's with 2 live, which are 1 and 2, and of heap 0's, 3 and 4, the second is ranked, or
-- ranked ahead
pub emptiest_by_number_case :
    map (λ (h : ℕ). emptiest h 16
    (unnamed_state (choice_state 64).setup (of 1 16 7 ∷ of 1 16 3 ∷ ranked 1 16 3 1 ∷ ranked 0 16 1 3 ∷ ranked 0 16 2 2 ∷ replicate 59 unused)))
    (1 ∷ 0 ∷ []) ≡ Some 1 ∷ Some 3 ∷ []
unfolding emptiest chosen_below prefer fewer_live more_live is_more_recent is_ranked belongs live_count sum_below mark_bit bit
emptiest_by_number_case = refl

-- "heap 0: the lowest-numbered superblock with nothing live, of any class"; another heap's empty one is none
abbrev pub none_empty_in_global : State
none_empty_in_global = unnamed_state (choice_state 64).setup (of 1 16 0 ∷ of 0 17 4 ∷ of 0 16 1 ∷ replicate 61 unused)

pub lowest_empty_cases : lowest_empty (choice_state 64) ∷ lowest_empty none_empty_in_global ∷ [] ≡ Some 7 ∷ None ∷ []
unfolding lowest_empty chosen_below prefer never_preferred is_more_recent is_ranked empty_in_global live_count sum_below mark_bit bit
lowest_empty_cases = refl

-- by number, whatever the ranks, which are for places 1 and 2: of heap 0's empty ones, 1 and 3, the second is ranked alone, or ranked ahead; the last
-- superblock is seen
abbrev pub two_empty_in_global : ℕ → ℕ → State
two_empty_in_global r t = unnamed_state (choice_state 64).setup (ranked 1 16 0 3 ∷ ranked 0 17 0 r ∷ ranked 0 16 4 4 ∷ ranked 0 16 0 t ∷ replicate 60 unused)

pub lowest_empty_by_number_cases :
    lowest_empty (two_empty_in_global 0 1) ∷ lowest_empty (two_empty_in_global 2 1)
    ∷ lowest_empty (unnamed_state (choice_state 64).setup (of 0 17 4 ∷ replicate 62 unused ++ ranked 0 16 0 1 ∷ [])) ∷ []
    ≡ Some 1 ∷ Some 1 ∷ Some 63 ∷ []
unfolding lowest_empty chosen_below prefer never_preferred is_more_recent is_ranked empty_in_global live_count sum_below mark_bit bit
lowest_empty_by_number_cases = refl

-- "the lowest-numbered unused one of superblocks 0 to N - 1", for N = 14, 11 and 10; by number too where they are ranked, as in no state that passes
pub lowest_unused_cases :
    map (λ (n : ℕ). lowest_unused (choice_state n)) (14 ∷ 11 ∷ 10 ∷ []) ≡ Some 10 ∷ Some 10 ∷ None ∷ []
    × lowest_unused (unnamed_state (choice_state 64).setup (of 1 16 0 ∷ ranked 255 0 0 2 ∷ ranked 255 0 0 1 ∷ replicate 61 unused)) ≡ Some 1
unfolding lowest_unused chosen_below prefer never_preferred is_more_recent is_ranked is_unused live_count sum_below mark_bit bit
lowest_unused_cases = (refl, refl)

-- the first that is found
pub or_else_cases : or_else (Some 5) (Some 3) ∷ or_else None (Some 3) ∷ or_else (Some 5) None ∷ or_else None None ∷ [] ≡ Some 5 ∷ Some 3 ∷ Some 5 ∷ None ∷ []
or_else_cases = refl

-- ---- the cases so far take little. Each that follows takes longer, and is computed where they and the one before it hold
unfoldable quick_choices_hold : Unit {0}
quick_choices_hold =
    emptiest_cases also emptiest_by_number_case also lowest_empty_cases also lowest_empty_by_number_cases also lowest_unused_cases also or_else_cases also tt

-- of class 16 heap 1 has, with 4 live, unranked ones and ones of ranks 3 and 2, with 2 live one of rank 1, and full ones, of rank 4 and unranked; heap 2 has
-- unranked ones; heap 0 has, with 1 live, one unranked and one of rank 5
abbrev pub ranked_choice_state : State
ranked_choice_state =
    unnamed_state (record { processors = 2; superblocks = 64; spare = 1; p = 3; q = 7 })
    (of 1 16 15 ∷ ranked 1 16 30 3 ∷ ranked 1 16 60 2 ∷ ranked 1 16 3 1 ∷ ranked 1 16 1023 4 ∷ of 1 16 15 ∷ of 2 16 3 ∷ of 2 16 12 ∷ of 0 16 1
    ∷ ranked 0 16 2 5 ∷ replicate 54 unused)

-- "Among equally full superblocks in places 1 and 2 of a take, the one freed into most recently since it was last renewed comes first. Those not
-- freed into since then follow, lower number first."
pub fullest_of_equals_cases : fullest 1 16 ranked_choice_state ∷ fullest 2 16 ranked_choice_state ∷ fullest 0 16 ranked_choice_state ∷ [] ≡ Some 2 ∷ Some 6
    ∷ Some 9 ∷ []
unfolding quick_choices_hold fullest chosen_below prefer fuller_or_more_recent more_live is_more_recent is_ranked has_free belongs blocks_of counts live_count
    sum_below
    mark_bit bit
fullest_of_equals_cases = refl

-- "class c with a free block, most live first, the lower number among equals"; in heap 0 "one with nothing live counts as well"; the last superblock
-- is seen, and none past it, in heap 0 and class 0
pub fullest_cases :
    fullest 1 16 (choice_state 64) ∷ fullest 2 16 (choice_state 64) ∷ fullest 0 16 (choice_state 64) ∷ fullest 0 17 (choice_state 64)
    ∷ fullest 1 17 (choice_state 64) ∷ fullest 2 17 (choice_state 64) ∷ fullest 1 18 (choice_state 64) ∷ fullest 0 0 (choice_state 64) ∷ []
    ≡ Some 4 ∷ None ∷ Some 8 ∷ Some 7 ∷ Some 6 ∷ Some 63 ∷ None ∷ None ∷ []
unfolding fullest chosen_below prefer fuller_or_more_recent more_live is_more_recent is_ranked has_free belongs blocks_of counts live_count sum_below mark_bit
    bit
fullest_cases = let before = fullest_of_equals_cases in refl

unfoldable pub choices_hold : Unit {0}
choices_hold = fullest_cases also tt
