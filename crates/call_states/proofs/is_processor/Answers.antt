-- `call_states::is_processor` meets its contract: by its two tests. Assumes nothing.
use Rattle.call_rules.specs.Answers.{is_processor}
use borrow.Author.Rules.{rules}
use Rattle.call_states.proofs.is_processor.Goals as goal

pub returns : goal.returns
unfolding is_processor
returns c = search rules
