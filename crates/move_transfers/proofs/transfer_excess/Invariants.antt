-- `move_transfers::transfer_excess` meets its contract. The loop's invariant: the moves still to be made are those from the state so far. The measure
-- is the number of the heap's superblocks. Assumes nothing.
use Rattle.heap_rules.specs.Counts.{superblocks_of}
use Rattle.move_transfers.proofs.TransferLoopLaws.{TransferInvariant}
use Rattle.move_transfers.proofs.transfer_excess.Given as goal

abbrev pub invariant-loop-state : goal.invariant-loop-state
invariant-loop-state l = TransferInvariant l.heap l.class l.initial.state l.state l.moves

abbrev pub decreases-loop-state : goal.decreases-loop-state
decreases-loop-state l = superblocks_of l.heap l.class l.state
