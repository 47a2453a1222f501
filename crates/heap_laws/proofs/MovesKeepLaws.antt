-- What each move keeps, all moves of a heap and class keep. Assumes nothing.
use Rattle.std.specs.Prelude.{Option}
use mathlib.Core.Path.{◌≡◌, ◌∙◌}
use Prim.Native.Nat.{ℕ, zero, suc, ◌+◌}
use lib.ListN.{length}
use lib.Dec.{eqb}
use Rattle.base_laws.proofs.TestLaws.{pick_elim}
use Rattle.heap_rules.specs.declared.State.{State}
use Rattle.heap_rules.specs.declared.Moved.{Moved}
use Rattle.heap_rules.specs.Totals.{TotalsKept}
use Rattle.choice_rules.specs.Choice.{emptiest}
use Rattle.move_rules.specs.Moves.{must_move, found_transferred, transfers_up_to, excess_transferred, invariant_restored}
use Rattle.heap_laws.proofs.MoveLaws.{length_of_found_transferred, totals_kept_of_found_transferred}

module _ (P : State → Type 0) (kept : (found : Option ℕ) (s : State) → P s → P (found_transferred found s)) where
  transfers_keep : (k h c m : ℕ) (s : State) → P s → P (transfers_up_to k h c m s).state
  unfolding transfers_up_to
  transfers_keep zero h c m s p = p
  transfers_keep (suc k) h c m s p =
      pick_elim (λ (w : Moved). P w.state) (must_move h c s) (transfers_up_to k h c (m + 1) (found_transferred (emptiest h c s) s))
      (record { moves = m; state = s })
      (λ e. transfers_keep k h c (m + 1) (found_transferred (emptiest h c s) s) (kept (emptiest h c s) s p))
      (λ e. p)

  pub invariant_restored_keeps : (h c : ℕ) (s : State) → P s → P (invariant_restored h c s).state
  unfolding invariant_restored excess_transferred
  invariant_restored_keeps h c s p = pick_elim (λ (w : Moved). P w.state) (eqb h 0) (record { moves = 0; state = s }) (transfers_up_to 64 h c 0 s)
      (λ e. p) (λ e. transfers_keep 64 h c 0 s p)

pub length_of_invariant_restored : (h c : ℕ) (s : State) → length s.table ≡ 64 → length (invariant_restored h c s).state.table ≡ 64
length_of_invariant_restored = invariant_restored_keeps (λ s. length s.table ≡ 64) (λ found s e. length_of_found_transferred found s ∙ e)

pub totals_kept_of_invariant_restored : (h c : ℕ) (s : State) → TotalsKept s → TotalsKept (invariant_restored h c s).state
totals_kept_of_invariant_restored = invariant_restored_keeps TotalsKept totals_kept_of_found_transferred
