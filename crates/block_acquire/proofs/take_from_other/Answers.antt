-- `block_acquire::take_from_other` meets its contract: a take from the superblock that the heap acquired. Assumes nothing.
use Rattle.block_acquire.proofs.AcquisitionLaws.{taken_from_other_by_steps}
use Rattle.block_acquire.proofs.take_from_other.Goals as goal

pub returns-clause-order_after : goal.returns-clause-order_after
returns-clause-order_after c = search taken_from_other_by_steps
