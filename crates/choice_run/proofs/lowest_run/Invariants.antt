-- `choice_run::lowest_run` meets its contract. The loop's invariant: so many available superblocks stand in a row before superblock k, and no run ends
-- at or before k. Assumes nothing.
use Rattle.choice_run.proofs.RunScanLaws.{RowBefore}
use Rattle.choice_run.proofs.lowest_run.Given as goal

abbrev pub invariant-loop-k : goal.invariant-loop-k
invariant-loop-k l = RowBefore l.fn.s l.n l.k l.row
