-- What it is to be a run, in cases that tell it from near misses: each field of it is false once, where all others hold. Assumes nothing.
use mathlib.Core.Path.{◌≡◌, refl, subst}
use mathlib.Core.Bool.{true, false}
use mathlib.Core.List.{List, [], ◌∷◌, ◌++◌}
use Prim.Native.Nat.{ℕ, suc, ◌+◌, ◌-◌, ◌≤◌}
use native.Mathlib.Omega.{arith}
use lib.ListN.{replicate}
use lib.Dec.{T, eqb, eqb→eq}
use Rattle.base_laws.proofs.Stages.{◌also◌}
use Rattle.base_laws.specs.Sums.{all_below}
use Rattle.base_laws.proofs.TestLaws.{T_of_true, true_of_T, true_not_false}
use Rattle.base_laws.proofs.SumLaws.{all_at}
use Rattle.heap_rules.specs.declared.Superblock.{Superblock}
use Rattle.heap_rules.specs.declared.State.{State}
use Rattle.heap_rules.specs.Table.{superblock_at, unused, is_of_run, run_part}
use Rattle.heap_rules.specs.Runs.{InRun, RunAt}
use Rattle.heap_rules.proofs.CaseStates.{unnamed_state}
use Rattle.heap_rules.proofs.TableCases.{small_setup, table_holds}
use Rattle.heap_rules.proofs.RunCases.{with_length}

-- superblocks 2, 3 and 4 are those of the run of three from 2 on; 1 and 5 are not
pub in_run_cases : InRun 2 3 2 × InRun 2 3 4 × (InRun 2 3 1 → ⊥) × (InRun 2 3 5 → ⊥)
unfolding table_holds
in_run_cases = ((omega arith, omega arith), (omega arith, omega arith), λ k. let z = k.0 in omega arith, λ k. let z = k.1 in omega arith)

-- a state with this table
abbrev pub table_state : List Superblock → State
table_state table = unnamed_state small_setup table

-- a run of three that is said to have two, or four
abbrev pub run_of_three : State
run_of_three = table_state (run_part 3 ∷ run_part 0 ∷ run_part 0 ∷ run_part 0 ∷ replicate 60 unused)

pub run_of_other_length_fails : (RunAt run_of_three 0 2 → ⊥) × (RunAt run_of_three 0 4 → ⊥)
unfolding table_holds
run_of_other_length_fails = (λ k. let z : ◌≡◌ {A = ℕ} 3 2 = k.length_is in omega arith, λ k. let z : ◌≡◌ {A = ℕ} 3 4 = k.length_is in omega arith)

-- one of none, at a superblock that carries 0
pub run_of_none_fails : RunAt run_of_three 1 0 → ⊥
unfolding table_holds
run_of_none_fails k = let z = k.some in omega arith

-- one of 17
pub run_of_17_fails : RunAt (table_state (run_part 17 ∷ replicate 63 (run_part 0))) 0 17 → ⊥
unfolding table_holds
run_of_17_fails k = let z = k.at_most_16 in omega arith

-- one that goes on behind the table's 64 superblocks
pub run_past_table_fails : RunAt (table_state (replicate 63 unused ++ run_part 2 ∷ run_part 0 ∷ [])) 63 2 → ⊥
unfolding table_holds
run_past_table_fails k = let z = k.in_table in omega arith

-- one whose first, second or last superblock is not of a run
pub run_with_gap_fails :
    (RunAt (table_state (with_length 255 3 ∷ run_part 0 ∷ run_part 0 ∷ replicate 61 unused)) 0 3 → ⊥)
    × (RunAt (table_state (run_part 3 ∷ unused ∷ run_part 0 ∷ replicate 61 unused)) 0 3 → ⊥)
    × (RunAt (table_state (run_part 3 ∷ run_part 0 ∷ with_length 1 0 ∷ replicate 61 unused)) 0 3 → ⊥)
unfolding table_holds is_of_run
run_with_gap_fails = (
  λ k. true_not_false false (k.of_run 0 (omega arith) (omega arith)) refl,
  λ k. true_not_false false (k.of_run 1 (omega arith) (omega arith)) refl,
  λ k. true_not_false false (k.of_run 2 (omega arith) (omega arith)) refl,
)

-- one whose second or last superblock carries a length too
pub run_with_second_length_fails :
    (RunAt (table_state (run_part 3 ∷ run_part 1 ∷ run_part 0 ∷ replicate 61 unused)) 0 3 → ⊥)
    × (RunAt (table_state (run_part 3 ∷ run_part 0 ∷ run_part 1 ∷ replicate 61 unused)) 0 3 → ⊥)
unfolding table_holds
run_with_second_length_fails = (
  λ k. let z : ◌≡◌ {A = ℕ} 1 0 = k.others_carry_0 1 (omega arith) (omega arith) in omega arith,
  λ k. let z : ◌≡◌ {A = ℕ} 1 0 = k.others_carry_0 2 (omega arith) (omega arith) in omega arith,
)

-- what it holds of is computed where the cases so far hold
unfoldable run_at_fails : Unit {0}
run_at_fails =
    in_run_cases also run_of_other_length_fails also run_of_none_fails also run_of_17_fails also run_past_table_fails
    also run_with_gap_fails also run_with_second_length_fails also tt

-- a run by its tests, those of each of its superblocks in order
pub run_at_by_test : (s : State) (k n : ℕ) → (superblock_at s k).run ≡ n → 1 ≤ n → n ≤ 16 → k + n ≤ 64
    → all_below (λ d. is_of_run (superblock_at s (k + d))) n ≡ true → all_below (λ d. eqb (superblock_at s (k + suc d)).run 0) (n - 1) ≡ true
    → RunAt s k n
unfolding run_at_fails
run_at_by_test s k n e one-or-more at_most_16 fits own zeros =
    record {
      length_is = e;
      some = one-or-more;
      at_most_16 = at_most_16;
      in_table = fits;
      of_run = λ m l h.
          let t = all_at (λ d. is_of_run (superblock_at s (k + d))) n (T_of_true _ own) (m - k) (omega arith) in
          true_of_T _ (subst (λ (x : ℕ). T (is_of_run (superblock_at s x))) (omega arith) t);
      others_carry_0 = λ m l h.
          let t = all_at (λ d. eqb (superblock_at s (k + suc d)).run 0) (n - 1) (T_of_true _ zeros) (m - suc k) (omega arith) in
          eqb→eq (superblock_at s m).run 0 (subst (λ (x : ℕ). T (eqb (superblock_at s x).run 0)) (omega arith) t);
    }

-- the longest there is, up to the table's end; and the shortest, between two others
pub run_at_holds :
    RunAt (table_state (replicate 48 unused ++ run_part 16 ∷ replicate 15 (run_part 0))) 48 16
    × RunAt (table_state (run_part 2 ∷ run_part 0 ∷ run_part 1 ∷ run_part 3 ∷ run_part 0 ∷ run_part 0 ∷ replicate 58 unused)) 2 1
unfolding is_of_run all_below
run_at_holds = (
  run_at_by_test _ 48 16 refl (omega arith) (omega arith) (omega arith) refl refl,
  run_at_by_test _ 2 1 refl (omega arith) (omega arith) (omega arith) refl refl,
)

unfoldable pub run_at_hold : Unit {0}
run_at_hold = run_at_holds also tt
