-- `check_runs::runs_valid` meets its contract. The loop's invariant: what the superblocks left say, with those of a run still to come, is what the
-- whole table says. Assumes nothing.
use Rattle.check_runs.proofs.RunScanLaws.{Scanned}
use Rattle.check_runs.proofs.runs_valid.Given as goal

abbrev pub invariant-loop-b : goal.invariant-loop-b
invariant-loop-b l = Scanned l.fn.table l.left l.b-index
