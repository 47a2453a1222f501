-- `check_recount::recount` meets its contract. The loop's invariant: the superblocks passed are counted. Assumes nothing.
use Rattle.check_recount.proofs.RecountLaws.{RecountedBelow}
use Rattle.check_recount.proofs.recount.Given as goal

abbrev pub invariant-loop-b : goal.invariant-loop-b
invariant-loop-b l = RecountedBelow l.fn.table l.b-index l.superblocks l.live
