-- `call_drop::restore_pair` meets its contract. Assumes nothing.
use Rattle.call_drop.proofs.RestoreLaws.{moves_added_fit_w8, then_restored_by_steps}
use Rattle.call_drop.proofs.restore_pair.Goals as goal

pub returns : goal.returns
returns c = search then_restored_by_steps

pub overflow_add-result : goal.overflow_add-result
overflow_add-result c = search moves_added_fit_w8
