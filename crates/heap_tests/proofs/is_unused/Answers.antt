-- `heap_tests::is_unused` meets its contract. Assumes nothing.
use Rattle.heap_rules.specs.Table.{is_unused}
use borrow.Author.Rules.{rules}
use Rattle.heap_tests.proofs.is_unused.Goals as goal

pub returns : goal.returns
unfolding is_unused
returns c = search rules
