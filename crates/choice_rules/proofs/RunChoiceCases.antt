-- The run that a long block takes (document 02, item 7) in cases that tell the choice from near misses, by computation. Assumes nothing.
use Rattle.std.specs.Prelude.{Some, None}
use mathlib.Core.Path.{◌≡◌, refl}
use mathlib.Core.Bool.{true, false}
use mathlib.Core.List.{[], ◌∷◌, ◌++◌, map}
use Prim.Native.Nat.{ℕ}
use lib.ListN.{replicate}
use lib.Dec.{ltb}
use Rattle.base_laws.proofs.Stages.{◌also◌}
use Rattle.base_laws.specs.Sums.{sum_below, all_below}
use Rattle.marks_rules.specs.Marks.{bit, mark_bit, live_count}
use Rattle.heap_rules.specs.declared.State.{State}
use Rattle.heap_rules.specs.Table.{unused, is_unused, run_part}
use Rattle.choice_rules.specs.Choice.{empty_in_global}
use Rattle.choice_rules.specs.RunChoice.{is_available, is_free_run, lowest_below, lowest_run}
use Rattle.heap_rules.proofs.TableCases.{of, ranked}
use Rattle.heap_rules.proofs.CaseStates.{unnamed_state}
use Rattle.choice_rules.proofs.ChoiceCases.{choices_hold}

-- unused, or empty in heap 0, of any class and rank; not with a block live, nor a processor's, nor of a run, nor of owner 255 with a mark or a class
pub is_available_cases :
    map is_available (unused ∷ of 0 0 0 ∷ of 0 17 0 ∷ ranked 0 26 0 3 ∷ []) ≡ replicate 4 true
    × map is_available (of 0 17 4 ∷ of 1 17 0 ∷ of 8 0 0 ∷ run_part 2 ∷ run_part 0 ∷ of 255 0 1 ∷ of 255 3 0 ∷ []) ≡ replicate 7 false
unfolding choices_hold is_available is_unused empty_in_global live_count sum_below mark_bit bit
is_available_cases = (refl, refl)

-- the lowest that passes, of those below the bound
pub lowest_below_cases : map (lowest_below (λ k. ltb 2 k)) (0 ∷ 3 ∷ 4 ∷ 9 ∷ []) ≡ None ∷ None ∷ Some 3 ∷ Some 3 ∷ []
unfolding choices_hold lowest_below
lowest_below_cases = refl

-- N, and the superblocks: two available ones, from 1 on, the second empty in heap 0; three from 4 on, of which the middle one is empty in heap 0; and
-- those from 8 on, unused. Between them heap 1 has an empty one and heap 0 one with a block live
abbrev pub gaps_state : ℕ → State
gaps_state n =
    unnamed_state (record { processors = 2; superblocks = n; spare = 1; p = 3; q = 7 })
    (of 1 16 3 ∷ unused ∷ of 0 17 0 ∷ of 1 16 0 ∷ unused ∷ ranked 0 16 0 1 ∷ unused ∷ of 0 18 1 ∷ replicate 56 unused)

-- N = 14: the gaps from 1, 4 and 8 on, and one more than each holds; a part of a gap; the last superblock, and the one behind it; past N from within the gap
pub is_free_run_cases :
    is_free_run 2 (gaps_state 14) 1 ∷ is_free_run 3 (gaps_state 14) 4 ∷ is_free_run 6 (gaps_state 14) 8 ∷ is_free_run 1 (gaps_state 14) 5
    ∷ is_free_run 1 (gaps_state 14) 13 ∷ [] ≡ replicate 5 true
    × is_free_run 3 (gaps_state 14) 1 ∷ is_free_run 4 (gaps_state 14) 4 ∷ is_free_run 7 (gaps_state 14) 8 ∷ is_free_run 3 (gaps_state 14) 0
    ∷ is_free_run 1 (gaps_state 14) 14 ∷ is_free_run 2 (gaps_state 14) 13 ∷ [] ≡ replicate 6 false
unfolding choices_hold is_free_run all_below is_available is_unused empty_in_global live_count sum_below mark_bit bit
is_free_run_cases = (refl, refl)

-- N = 9: superblock 8 alone is a gap of just one, and the lowest run of one is in the gap from 1 on all the same
pub lowest_run_before_exact_gap_case : lowest_run 1 (gaps_state 9) ≡ Some 1
unfolding choices_hold lowest_run lowest_below is_free_run all_below is_available is_unused empty_in_global live_count sum_below mark_bit bit
lowest_run_before_exact_gap_case = refl

-- ---- the cases so far take little. Each that follows takes longer, and is computed where they and the one before it hold
unfoldable quick_runs_hold : Unit {0}
quick_runs_hold = is_available_cases also lowest_below_cases also is_free_run_cases also lowest_run_before_exact_gap_case also tt

-- the last superblock alone, and 16 up to the last; of a full table none
pub lowest_run_at_end_cases :
    lowest_run 1 (unnamed_state (gaps_state 64).setup (replicate 63 (run_part 1) ++ unused ∷ []))
    ∷ lowest_run 16 (unnamed_state (gaps_state 64).setup (replicate 48 (run_part 1) ++ replicate 16 unused))
    ∷ lowest_run 1 (unnamed_state (gaps_state 64).setup (replicate 64 (run_part 1))) ∷ []
    ≡ Some 63 ∷ Some 48 ∷ None ∷ []
unfolding quick_runs_hold lowest_run lowest_below is_free_run all_below is_available is_unused empty_in_global live_count sum_below mark_bit bit
lowest_run_at_end_cases = refl

-- the lowest gap that is long enough: for 1 and 2 the first, for 3 the second, for 4 and 6 the third, and for 7 none, as all are to be below N = 14
pub lowest_run_cases : map (λ (n : ℕ). lowest_run n (gaps_state 14)) (1 ∷ 2 ∷ 3 ∷ 4 ∷ 6 ∷ 7 ∷ []) ≡ Some 1 ∷ Some 1 ∷ Some 4 ∷ Some 8 ∷ Some 8 ∷ None ∷ []
unfolding lowest_run lowest_below is_free_run all_below is_available is_unused empty_in_global live_count sum_below mark_bit bit
lowest_run_cases = let before = lowest_run_at_end_cases in refl
