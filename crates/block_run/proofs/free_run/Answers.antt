use borrow.Author.Rules.{rules}
use Rattle.block_run.proofs.RunStepLaws.{none_changed, one_more_unused, all_unused}
use Rattle.block_run.proofs.free_run.Goals as goal

pub loop-i-init : goal.loop-i-init
loop-i-init c = search none_changed

pub loop-i-preserved : goal.loop-i-preserved
loop-i-preserved c = search one_more_unused

pub returns : goal.returns
returns c = search (all_unused, rules)
