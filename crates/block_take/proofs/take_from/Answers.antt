-- `block_take::take_from` meets its contract: the answer and the state are those of the definition, step by step. Assumes nothing.
use Rattle.block_take.proofs.TakeFromLaws.{taken_from_by_steps}
use Rattle.block_take.proofs.take_from.Goals as goal

pub returns-clause-order_value : goal.returns-clause-order_value
returns-clause-order_value c = search taken_from_by_steps
