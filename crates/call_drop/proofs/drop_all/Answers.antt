-- `call_drop::drop_all` meets its contract. Assumes nothing.
use Rattle.call_drop.proofs.DropUncheckedLaws.{moves_can_be_made, dropped_all_by_steps}
use Rattle.call_drop.proofs.drop_all.Goals as goal

pub restore_heaps-m-requires : goal.restore_heaps-m-requires
restore_heaps-m-requires c = let pre = c.requires in
    moves_can_be_made _ _ _ c.free_all-t.ensures.0 pre.1 pre.2

pub returns : goal.returns
returns c = search dropped_all_by_steps
