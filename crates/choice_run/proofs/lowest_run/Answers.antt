-- `choice_run::lowest_run` meets its contract.
use native.Mathlib.Omega.{arith}
use Rattle.base_laws.proofs.ReplacedElement.{length_of_length_map}
use Rattle.choice_run.proofs.RunScanLaws.{run_of_none_is_first, no_row_at_start, row_step_available, row_step_other}
use Rattle.choice_run.proofs.RunScanLaws.{run_found, run_past_table, no_run_found}
use Rattle.choice_run.proofs.lowest_run.Goals as goal
use Rattle.choice_run.proofs.lowest_run.Goals.{then-is_available, else-is_available}
use Rattle.choice_run.proofs.lowest_run.Goals.{else-row-gt0-via-then-row-gt0+else-n-row, else-row-gt0-via-else-row-gt0}

pub returns-then-n-eq0 : goal.returns-then-n-eq0
returns-then-n-eq0 c = rw c.if-n-eq0.true (run_of_none_is_first _)

pub loop-k-init : goal.loop-k-init
loop-k-init c = no_row_at_start _ _ (omega arith)

pub returns-then-row-n : goal.returns-then-row-n
returns-then-row-n c =
    elim c.if-is_available.branch [
      | then-is_available u ↦ run_found _ _ _ _ c.loop-k.invariant _ c.min-end.ensures _ c.loop-k-test.true (λ l. omega arith) _ c.is_available.ensures _
          u.if-is_available.true u.row-is c.if-row-n.true
      | else-is_available u ↦ absurd (omega arith)
    ]

pub loop-k-preserved : goal.loop-k-preserved
loop-k-preserved c =
    elim c.if-is_available.branch [
      | then-is_available u ↦ row_step_available _ _ _ _ c.loop-k.invariant _ c.min-end.ensures _ c.loop-k-test.true (λ l. omega arith) _
          c.is_available.ensures _ u.if-is_available.true u.row-is c.if-row-n.false
      | else-is_available u ↦ row_step_other _ _ _ _ c.loop-k.invariant _ c.min-end.ensures _ c.loop-k-test.true (λ l. omega arith) _ c.is_available.ensures _
          u.if-is_available.false u.row-is
    ]

pub returns-then-n-row : goal.returns-then-n-row
returns-then-n-row c = run_past_table _ _ _ _ _ c.min-end.ensures c.loop-k.invariant (omega arith) (omega arith) (search length_of_length_map)
    c.if-row-gt0.true c.if-n-row.true

pub returns-else-row-gt0 : goal.returns-else-row-gt0
returns-else-row-gt0 c =
    no_run_found _ _ _ _ _ c.min-end.ensures c.loop-k.invariant (omega arith) (omega arith)
    (λ some enough. elim c.else-row-gt0.branch [
      | else-row-gt0-via-then-row-gt0+else-n-row u ↦ omega arith
      | else-row-gt0-via-else-row-gt0 u ↦ omega arith
    ])
