-- Totals on a lent row (document 02, item 3). Assumes nothing.
use mathlib.Core.Path.{◌≡◌, sym, ap, ◌∙◌, subst}
use mathlib.Core.Logic.{⊎_elim}
use mathlib.Core.List.{List, [], map}
use Prim.Native.Nat.{ℕ, ◌*◌, ◌≤◌}
use lib.ListN.{length}
use Rattle.heap_rules.specs.declared.Superblock.{Superblock}
use Rattle.heap_rules.specs.declared.Setup.{Setup}
use Rattle.heap_rules.specs.Totals.{recounted, no_totals, TotalsCounted}
use Rattle.heap_laws.proofs.StateFacts.{WithinLimits}
use Rattle.call_rules.specs.Calls.{Call}
use Rattle.call_rules.specs.declared.Outcome.TheVariants.{Ready, Refused}
use Rattle.call_laws.proofs.TotalsKeptLaws.{totals_counted_of_kept, call_keeps_totals, call_refused_13_of_wrong_total}
use Rattle.claim_laws.proofs.TotalsOverLists.{totals_kept_over_list, live_totals_agree_with_ledger}
use Rattle.row_rules.specs.declared.Control.{Control}
use Rattle.row_rules.specs.Row.{RowAfter, state_of, as_row_after, row_refused, row_setup, row_call}
use Rattle.row_rules.specs.RowClaim.{RowStep, RowLinked, as_after, step_of}
use Rattle.row_laws.proofs.RowLaws.{call_on_64_is_call_of, row_setup_refused_or_accepted, row_call_refused_or_accepted, row_call_refused}
use Rattle.row_laws.proofs.RowDemand3.{row_list_is_call_list}
use Rattle.claim_rules.specs.TotalsClaim.{TotalsCountedOver, LiveTotalsAgreeOver}

-- "a new or refused setup has them at 0"
pub row_setup_totals_are_0 : (u : Setup) (row : List Superblock) (order : List ℕ) → (row_setup u row order).control.totals ≡ no_totals
row_setup_totals_are_0 u row order =
    ⊎_elim (λ h. ap (λ (x : RowAfter). x.control.totals) h.1) (λ h. ap (λ (x : RowAfter). x.control.totals) h.2)
    (row_setup_refused_or_accepted u row order)

-- "Every operation keeps them equal to the recount"
module _ (control : Control) (row : List Superblock) (order : List ℕ) (call : Call) where
  -- the totals that an accepted call hands back are the recount of the row that it leaves ..
  pub accepted_row_call_keeps_totals : ((r : ℕ) → (row_call control row order call).outcome ≡ Refused r → ⊥)
      → (row_call control row order call).control.totals ≡ recounted (row_call control row order call).row
  accepted_row_call_keeps_totals goes =
      ⊎_elim (λ h. absurd (goes h.0 (ap (λ (x : RowAfter). x.outcome) h.1)))
      (λ h. subst (λ (x : RowAfter). x.control.totals ≡ recounted x.row) (sym h.2)
      (call_keeps_totals (state_of control row) order call h.1.passed.totals))
      (row_call_refused_or_accepted control row order call)

  -- .. so that those of each heap and class are its superblocks and its live blocks there
  pub accepted_row_call_totals_counted : ((r : ℕ) → (row_call control row order call).outcome ≡ Refused r → ⊥)
      → TotalsCounted (state_of (row_call control row order call).control (row_call control row order call).row)
  accepted_row_call_totals_counted goes = totals_counted_of_kept _ (accepted_row_call_keeps_totals goes)

  -- a refused call hands back those that it was given
  pub refused_row_call_keeps_totals : (r : ℕ) → (row_call control row order call).outcome ≡ Refused r → (row_call control row order call).control.totals
      ≡ control.totals
  refused_row_call_keeps_totals r e = ap (λ (x : RowAfter). x.control.totals) (row_call_refused control row order call r e)

  -- "the state check adds this equality to 13's conditions": one total that is not the recount of the row is enough
  pub row_call_refused_13_of_wrong_total : length row ≡ 64 → WithinLimits control.setup → control.setup.superblocks * 256 ≤ length order
      → (TotalsCounted (state_of control row) → ⊥)
      → row_call control row order call ≡ row_refused 13 control row order
  row_call_refused_13_of_wrong_total long numbers lent wrong =
      call_on_64_is_call_of (length row) control row order call long
      ∙ ap as_row_after (call_refused_13_of_wrong_total (state_of control row) order call numbers lent wrong)

-- For every accepted setup on a lent row, whatever stood in row and storage before, and every list of takes and frees on that row after it, plain and
-- named, and of drops: the totals are the recount of the row before the list and after each of its calls, accepted or refused.
pub row_totals_kept_over_list : (u : Setup) (row : List Superblock) (order : List ℕ) (start : RowAfter) → start ≡ row_setup u row order → start.outcome ≡ Ready
    → (steps : List RowStep) → RowLinked start steps → TotalsCountedOver (as_after start) (map step_of steps)
row_totals_kept_over_list u row order start e ready steps linked =
    let list = row_list_is_call_list u row order start e ready steps linked in totals_kept_over_list u order (as_after start) list.0 (map step_of steps)
    list.1

-- .. and each class's live totals are the live blocks of the ledger that the calls and their answers make
pub row_live_totals_agree_with_ledger : (u : Setup) (row : List Superblock) (order : List ℕ) (start : RowAfter) → start ≡ row_setup u row order
    → start.outcome ≡ Ready
    → (steps : List RowStep) → RowLinked start steps → LiveTotalsAgreeOver u (as_after start) [] (map step_of steps)
row_live_totals_agree_with_ledger u row order start e ready steps linked =
    let list = row_list_is_call_list u row order start e ready steps linked in live_totals_agree_with_ledger u order (as_after start) list.0 ready
    (map step_of steps) list.1
