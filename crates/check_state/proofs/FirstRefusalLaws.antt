-- The check's refusals by their number: a setup's, and then what the code asks of the rest. Assumes nothing.
use mathlib.Core.Path.{◌≡◌, refl, sym}
use mathlib.Core.Bool.{Bool, true, false}
use mathlib.Core.List.{List}
use Prim.Native.Nat.{ℕ, ◌*◌}
use native.Mathlib.Omega.{arith}
use lib.ListN.{length}
use lib.Dec.{leb}
use Rattle.base_laws.specs.Sums.{pick, both}
use Rattle.base_laws.proofs.TestLaws.{T_of_true}
use Rattle.heap_rules.specs.declared.State.{State}
use Rattle.heap_laws.proofs.StateCheckLaws.{facts_of_within_limits}
use Rattle.check_rules.specs.Check.{within_limits, names_valid, ranks_valid, runs_whole, rest_valid}
use Rattle.check_superblock.specs.Alone.{each_valid}
use Rattle.check_limits.specs.declared.SetupFault.{SetupFault}
use Rattle.check_limits.specs.declared.SetupFault.TheVariants.{OutOfLimits, StorageTooSmall}
use Rattle.check_limits.specs.SetupRefusal.{setup_refusal, number_of_fault}
use Rattle.check_state.specs.FirstRefusal.{first_refusal, counts_valid}
use Rattle.check_state.proofs.RestValidLaws.{rest_valid_by_parts}

module _ (s : State) (order : List ℕ) where
  -- the refusal of a setup comes first
  pub first_refusal_of_fault : (fault : SetupFault) → number_of_fault 13 fault ≡ setup_refusal 13 s.setup order
      → number_of_fault 13 fault ≡ first_refusal s order
  unfolding setup_refusal first_refusal
  first_refusal_of_fault fault e = go (within_limits s.setup) (leb (s.setup.superblocks * 256) (length order)) fault e
    where
      go : (a b : Bool) (f : SetupFault) → number_of_fault 13 f ≡ pick a (pick b 0 12) 13
          → number_of_fault 13 f ≡ pick a (pick b (pick (rest_valid s order) 0 13) 12) 13
      go true true OutOfLimits q = absurd (omega arith)
      go true true StorageTooSmall q = absurd (omega arith)
      go true false f q = q
      go false b f q = q

  -- then the rest, by what the code asks
  first_refusal_of_rest : setup_refusal 13 s.setup order ≡ 0 → first_refusal s order
      ≡ pick (both (each_valid s.setup s.table order) (both (counts_valid s) (both (names_valid s) (both (ranks_valid s) (runs_whole 0 s.table))))) 0 13
  unfolding setup_refusal first_refusal
  first_refusal_of_rest e = go (within_limits s.setup) refl (leb (s.setup.superblocks * 256) (length order)) (sym e)
    where
      go : (a : Bool) → within_limits s.setup ≡ a → (b : Bool) → ◌≡◌ {A = ℕ} 0 (pick a (pick b 0 12) 13)
          → ◌≡◌ {A = ℕ} (pick a (pick b (pick (rest_valid s order) 0 13) 12) 13)
          (pick (both (each_valid s.setup s.table order) (both (counts_valid s) (both (names_valid s) (both (ranks_valid s) (runs_whole 0 s.table))))) 0 13)
      go true w true q =
          let h = (facts_of_within_limits s.setup (T_of_true _ w)).processors_high in
          rw (rest_valid_by_parts s order (omega arith))
      go true w false q = absurd (omega arith)
      go false w b q = absurd (omega arith)

  module _ (none : setup_refusal 13 s.setup order ≡ 0) where
    pub no_first_refusal : true ≡ each_valid s.setup s.table order → true ≡ counts_valid s → true ≡ names_valid s → true ≡ ranks_valid s
        → true ≡ runs_whole 0 s.table → 0 ≡ first_refusal s order
    no_first_refusal a b d e f = rw (first_refusal_of_rest none, ← a, ← b, ← d, ← e, ← f)

    pub first_refusal_13_of_rest : both (each_valid s.setup s.table order)
        (both (counts_valid s) (both (names_valid s) (both (ranks_valid s) (runs_whole 0 s.table)))) ≡ false → 13 ≡ first_refusal s order
    first_refusal_13_of_rest f = rw (first_refusal_of_rest none, f)
