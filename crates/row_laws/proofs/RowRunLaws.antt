-- Long blocks on a lent row (document 02, item 7). Assumes nothing.
use mathlib.Core.Path.{◌≡◌, ap, ◌∙◌}
use mathlib.Core.List.{List, [], map}
use Prim.Native.Nat.{ℕ, ◌*◌, ◌≤◌}
use lib.ListN.{length}
use Rattle.heap_rules.specs.declared.Superblock.{Superblock}
use Rattle.heap_rules.specs.declared.Setup.{Setup}
use Rattle.heap_laws.proofs.StateFacts.{Shape, WithinLimits, RunsSound}
use Rattle.heap_laws.proofs.RunLaws.{runs_sound_of_valid}
use Rattle.call_rules.specs.Calls.{Call}
use Rattle.call_rules.specs.declared.Outcome.TheVariants.{Ready, Refused}
use Rattle.call_laws.proofs.CallRunLaws.{call_refused_13_of_wrong_runs}
use Rattle.claim_laws.proofs.LongBlocksOverLists.{long_blocks_agree_with_ledger}
use Rattle.row_rules.specs.declared.Control.{Control}
use Rattle.row_rules.specs.Row.{RowAfter, state_of, as_row_after, row_refused, row_setup, row_call}
use Rattle.row_rules.specs.RowClaim.{RowStep, RowLinked, as_after, step_of}
use Rattle.row_laws.proofs.RowLaws.{call_on_64_is_call_of, row_call_refused, accepted_row_call_passes}
use Rattle.row_laws.proofs.RowDemand3.{row_list_is_call_list}
use Rattle.claim_rules.specs.LongBlocksClaim.{LongBlocksAgreeOver}

module _ (control : Control) (row : List Superblock) (order : List ℕ) (call : Call) where
  -- a refused call keeps all run lengths: the row's records are as they were
  pub refused_row_call_keeps_runs : (r : ℕ) → (row_call control row order call).outcome ≡ Refused r
      → map (λ (b : Superblock). b.run) (row_call control row order call).row ≡ map (λ (b : Superblock). b.run) row
  refused_row_call_keeps_runs r e = ap (λ (x : RowAfter). map (λ (b : Superblock). b.run) x.row) (row_call_refused control row order call r e)

  -- an accepted one leaves a row whose runs are whole
  pub accepted_row_call_keeps_runs_whole : ((r : ℕ) → (row_call control row order call).outcome ≡ Refused r → ⊥) → Shape (state_of control row)
      → RunsSound (state_of (row_call control row order call).control (row_call control row order call).row)
  accepted_row_call_keeps_runs_whole goes shape =
      let after = accepted_row_call_passes control row order call goes shape in
      runs_sound_of_valid (state_of (row_call control row order call).control (row_call control row order call).row) after.1.length_is after.0.runs

  -- "The state check tests .. that runs are whole and at most 16 long": a row with other runs is refused 13
  pub row_call_refused_13_of_wrong_runs : length row ≡ 64 → WithinLimits control.setup → control.setup.superblocks * 256 ≤ length order
      → (RunsSound (state_of control row) → ⊥)
      → row_call control row order call ≡ row_refused 13 control row order
  row_call_refused_13_of_wrong_runs long numbers lent wrong =
      call_on_64_is_call_of (length row) control row order call long
      ∙ ap as_row_after (call_refused_13_of_wrong_runs (state_of control row) order call long numbers lent wrong)

-- For every accepted setup on a lent row, whatever stood in row and storage before, and every list of takes and frees on that row after it, plain and
-- named, and of drops: the long blocks of the ledger that the calls and their answers make are the runs of the row, by start and length.
pub row_long_blocks_agree_with_ledger : (u : Setup) (row : List Superblock) (order : List ℕ) (start : RowAfter) → start ≡ row_setup u row order
    → start.outcome ≡ Ready
    → (steps : List RowStep) → RowLinked start steps → LongBlocksAgreeOver (as_after start) [] (map step_of steps)
row_long_blocks_agree_with_ledger u row order start e ready steps linked =
    let list = row_list_is_call_list u row order start e ready steps linked in long_blocks_agree_with_ledger u order (as_after start) list.0 ready
    (map step_of steps) list.1
