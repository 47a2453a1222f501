-- `call_free::free_at` meets its contract. Assumes nothing.
use Rattle.call_free.proofs.FreeUncheckedLaws.{freed_heap_and_class, block_freed_totals_kept, freed_at_of_run, freed_at_by_steps}
use Rattle.call_free.proofs.free_at.Goals as goal

pub restore_invariant-m-requires : goal.restore_invariant-m-requires
restore_invariant-m-requires c =
    let at = freed_heap_and_class c.args.s _ _ c.superblock_index.ensures c.if-b.false c.requires.2 in
    (at.0, at.1, block_freed_totals_kept c.args.s _ _ c.requires.3 c.release_block-t.ensures.0)

pub returns-then-b : goal.returns-then-b
returns-then-b c = freed_at_of_run c.args.s _ _ _ _ c.superblock_index.ensures _ c.release_block-t.ensures.1 c.release_block-t.ensures.0 c.if-b.true

pub returns-else-b : goal.returns-else-b
returns-else-b c =
    freed_at_by_steps c.args.s _ _ _ _ c.superblock_index.ensures _ c.release_block-t.ensures.1 c.release_block-t.ensures.0 _ c.if-b.false
    c.restore_invariant-m.ensures
