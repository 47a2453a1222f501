-- The clauses of the check that look at all superblocks together, the ranks and the emptiness invariant, in cases that tell them from near misses, by
-- computation. Assumes nothing.
use mathlib.Core.Path.{◌≡◌, refl}
use mathlib.Core.Bool.{true, false}
use mathlib.Core.List.{List, [], ◌∷◌, ◌++◌, map}
use Prim.Native.Nat.{ℕ, ◌-◌}
use lib.ListN.{length, replicate}
use Rattle.base_laws.specs.Lists.{listed}
use Rattle.base_laws.proofs.Stages.{◌also◌}
use Rattle.heap_rules.specs.declared.Superblock.{Superblock}
use Rattle.heap_rules.specs.declared.State.{State}
use Rattle.heap_rules.specs.Table.{unused, run_part, with_rank}
use Rattle.check_rules.specs.Check.{emptiness_invariant, ranks_valid}
use Rattle.heap_rules.proofs.TableCases.{of, ranked, small_setup}
use Rattle.heap_rules.proofs.CaseStates.{unnamed_state}
use Rattle.check_rules.proofs.CheckDefinitions.{check_definitions}
use Rattle.check_rules.proofs.RunCheckCases.{run_checks_hold}

-- ---- "the ranked ones carry 1 (latest) upwards, each once without a gap, the rest 0, unused ones too": superblocks 0, 1 and 63 of heaps 1, 0 and 2,
-- and superblock 2, which is unused
abbrev pub with_ranks_lem : ℕ → ℕ → ℕ → ℕ → State
with_ranks_lem a b c d = unnamed_state small_setup (ranked 1 17 1 a ∷ ranked 0 17 1 b ∷ with_rank c unused ∷ replicate 60 unused ++ ranked 2 16 1 d ∷ [])

-- a gap: from 2 on, and in between; a double: of 1, of the last; an unused one ranked, in order too; a rank above the number of superblocks, the widest too
pub ranks_not_valid_cases :
    ranks_valid (with_ranks_lem 0 2 0 0) ∷ ranks_valid (with_ranks_lem 1 0 0 3) ∷ ranks_valid (with_ranks_lem 1 1 0 0) ∷ ranks_valid (with_ranks_lem 1 1 0 2)
    ∷ ranks_valid (with_ranks_lem 2 2 0 1)
    ∷ ranks_valid (with_ranks_lem 0 0 1 0) ∷ ranks_valid (with_ranks_lem 1 2 3 0) ∷ ranks_valid (with_ranks_lem 0 0 0 65) ∷ ranks_valid
    (with_ranks_lem 1 2 0 255) ∷ []
    ≡ replicate 9 false
unfolding run_checks_hold check_definitions
ranks_not_valid_cases = refl

-- the last superblock ranked though it is unused, or of a run, behind one that is in order
pub last_superblock_ranked_cases :
    map (λ (b : Superblock). ranks_valid (unnamed_state small_setup (ranked 1 17 1 1 ∷ replicate 62 unused ++ with_rank 2 b ∷ []))) (unused ∷ run_part 1 ∷ [])
    ≡ false ∷ false ∷ []
unfolding run_checks_hold check_definitions
last_superblock_ranked_cases = refl

-- all 64 ranked
pub all_ranked_case : ranks_valid (unnamed_state small_setup (listed (λ k. ranked 1 26 1 (64 - k)) 64)) ≡ true
unfolding check_definitions listed
all_ranked_case = let before = ranks_not_valid_cases in let last = last_superblock_ranked_cases in refl

-- ---- tables that are looked at to their end. They are computed only where the cases above and those of the other clauses hold: a declaration that cites a
-- refused one is skipped, which makes an edit of a definition cheap
other_cases_hold : Unit {0}
other_cases_hold = all_ranked_case also tt

-- a ranked part of a run, and two empty superblocks of the last heap and class, alone: quick
pub refused_alone_cases :
    ranks_valid (unnamed_state small_setup (ranked 1 17 1 1 ∷ with_rank 2 (run_part 1) ∷ replicate 62 unused)) ≡ false
    × emptiness_invariant (unnamed_state small_setup (of 2 26 0 ∷ of 2 26 0 ∷ replicate 62 unused)) ≡ false
unfolding other_cases_hold check_definitions
refused_alone_cases = (refl, refl)

-- "no rank": superblocks 0 and 1 are ranked, and the run of two behind them is not; its first, or its last, of the next rank
pub ranks_beside_run_cases :
    map (λ (run : List Superblock). ranks_valid (unnamed_state small_setup (ranked 1 17 1 2 ∷ ranked 0 17 1 1 ∷ run ++ replicate 60 unused)))
    ((run_part 2 ∷ run_part 0 ∷ []) ∷ (with_rank 3 (run_part 2) ∷ run_part 0 ∷ []) ∷ (run_part 2 ∷ with_rank 3 (run_part 0) ∷ []) ∷ [])
    ≡ true ∷ false ∷ false ∷ []
unfolding other_cases_hold check_definitions
ranks_beside_run_cases = let before = refused_alone_cases in refl

-- ---- "no processor heap and class meets both conditions of the move rule": two empty superblocks of one heap and class do, for K = 1, of the first
-- heap and class and of the last; not in heap 0, nor of two heaps, nor of two classes
abbrev pub state_of_superblocks : List Superblock → State
state_of_superblocks l = unnamed_state small_setup (l ++ replicate (64 - length l) unused)

pub emptiness_invariant_cases :
    map (λ (l : List Superblock). emptiness_invariant (state_of_superblocks l))
    ((of 1 0 0 ∷ of 1 0 0 ∷ []) ∷ (of 2 26 0 ∷ of 2 26 0 ∷ []) ∷ (of 0 26 0 ∷ of 0 26 0 ∷ of 1 26 0 ∷ of 2 26 0 ∷ of 1 25 0 ∷ []) ∷ [])
    ≡ false ∷ false ∷ true ∷ []
unfolding other_cases_hold check_definitions
emptiness_invariant_cases = let before = ranks_beside_run_cases in refl

-- ---- ranks again: none ranked; one, two and three, in two orders
pub ranks_valid_cases :
    ranks_valid (with_ranks_lem 0 0 0 0) ∷ ranks_valid (with_ranks_lem 0 1 0 0) ∷ ranks_valid (with_ranks_lem 0 0 0 1) ∷ ranks_valid (with_ranks_lem 2 0 0 1)
    ∷ ranks_valid (with_ranks_lem 2 3 0 1) ∷ ranks_valid (with_ranks_lem 1 2 0 3) ∷ []
    ≡ replicate 6 true
unfolding other_cases_hold check_definitions
ranks_valid_cases = let before = emptiness_invariant_cases in refl
