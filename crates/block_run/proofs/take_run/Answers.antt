use borrow.Author.Rules.{rules}
use Rattle.block_run.proofs.RunStepLaws.{none_changed, one_more_joined, all_joined}
use Rattle.block_run.proofs.take_run.Goals as goal

pub loop-m-init : goal.loop-m-init
loop-m-init c = search none_changed

pub loop-m-preserved : goal.loop-m-preserved
loop-m-preserved c = search one_more_joined

pub returns : goal.returns
returns c = search (all_joined, rules)
