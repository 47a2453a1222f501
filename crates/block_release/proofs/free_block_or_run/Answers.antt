-- `block_release::free_block_or_run` meets its contract; the other goals are found alone. Assumes nothing.
use borrow.Author.Rules.{rules}
use Rattle.block_release.proofs.FreeStepLaws.{ranked_latest_keeps_totals}
use Rattle.block_release.proofs.free_block_or_run.Goals as goal

pub clear_mark-requires : goal.clear_mark-requires
clear_mark-requires c = (search rules, search ranked_latest_keeps_totals)
