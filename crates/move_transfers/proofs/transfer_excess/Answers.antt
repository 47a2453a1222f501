-- `move_transfers::transfer_excess` meets its contract: the other goals are proved without an answer. Assumes nothing.
use Rattle.move_transfers.proofs.TransferLoopLaws.{transfer_invariant_step}
use Rattle.move_transfers.proofs.transfer_excess.Goals as goal

pub loop-state-preserved : goal.loop-state-preserved
loop-state-preserved c = search transfer_invariant_step
