-- The ranking on a lent row (document 02, item 4). Assumes nothing.
use mathlib.Core.Path.{◌≡◌, ap, ◌∙◌}
use mathlib.Core.List.{List, [], map}
use Prim.Native.Nat.{ℕ, ◌*◌, ◌≤◌}
use lib.ListN.{length}
use Rattle.heap_rules.specs.declared.Superblock.{Superblock}
use Rattle.heap_rules.specs.declared.Setup.{Setup}
use Rattle.heap_laws.proofs.StateFacts.{WithinLimits, RanksSound}
use Rattle.call_rules.specs.Calls.{Call}
use Rattle.call_rules.specs.declared.Outcome.TheVariants.{Ready, Refused}
use Rattle.call_laws.proofs.CallRankLaws.{call_refused_13_of_wrong_ranking}
use Rattle.claim_rules.specs.History.{RankedByLastFreeOver, OffersLastFreedOver}
use Rattle.claim_laws.proofs.RanksOverLists.{ranked_by_last_free_over_list, offers_last_freed_over_list}
use Rattle.row_rules.specs.declared.Control.{Control}
use Rattle.row_rules.specs.Row.{RowAfter, state_of, as_row_after, row_refused, row_setup, row_call}
use Rattle.row_rules.specs.RowClaim.{RowStep, RowLinked, as_after, step_of}
use Rattle.row_laws.proofs.RowLaws.{call_on_64_is_call_of, row_call_refused}
use Rattle.row_laws.proofs.RowDemand3.{row_list_is_call_list}

module _ (control : Control) (row : List Superblock) (order : List ℕ) (call : Call) where
  -- a refused call keeps all ranks: the row's records are as they were
  pub refused_row_call_keeps_ranks : (r : ℕ) → (row_call control row order call).outcome ≡ Refused r
      → map (λ (b : Superblock). b.rank) (row_call control row order call).row ≡ map (λ (b : Superblock). b.rank) row
  refused_row_call_keeps_ranks r e = ap (λ (x : RowAfter). map (λ (b : Superblock). b.rank) x.row) (row_call_refused control row order call r e)

  -- "and the state check tests this": a row whose ranks are no ranking is refused 13
  pub row_call_refused_13_of_wrong_ranking : length row ≡ 64 → WithinLimits control.setup → control.setup.superblocks * 256 ≤ length order
      → (RanksSound (state_of control row) → ⊥)
      → row_call control row order call ≡ row_refused 13 control row order
  row_call_refused_13_of_wrong_ranking long numbers lent wrong =
      call_on_64_is_call_of (length row) control row order call long
      ∙ ap as_row_after (call_refused_13_of_wrong_ranking (state_of control row) order call numbers lent wrong)

-- For every accepted setup on a lent row, whatever stood in row and storage before, and every list of takes and frees on that row after it, plain and
-- named, and of drops: the row's ranked superblocks are those freed into since they were last renewed, in the order of their last frees, the latest
-- first.
pub row_ranked_by_last_free_over_list : (u : Setup) (row : List Superblock) (order : List ℕ) (start : RowAfter) → start ≡ row_setup u row order
    → start.outcome ≡ Ready
    → (steps : List RowStep) → RowLinked start steps → RankedByLastFreeOver (as_after start) [] [] (map step_of steps)
row_ranked_by_last_free_over_list u row order start e ready steps linked =
    let list = row_list_is_call_list u row order start e ready steps linked in ranked_by_last_free_over_list u order (as_after start) list.0 ready
    (map step_of steps) list.1

-- .. and of equally full superblocks of the row, places 1 and 2 of a take offer the one freed into most recently since it was last renewed, and where none
-- was, the lowest
pub row_offers_last_freed_over_list : (u : Setup) (row : List Superblock) (order : List ℕ) (start : RowAfter) → start ≡ row_setup u row order
    → start.outcome ≡ Ready → (steps : List RowStep) → RowLinked start steps → OffersLastFreedOver (as_after start) [] [] (map step_of steps)
row_offers_last_freed_over_list u row order start e ready steps linked =
    let list = row_list_is_call_list u row order start e ready steps linked in
    offers_last_freed_over_list u order (as_after start) list.0 ready (map step_of steps) list.1
