-- `heap_tests::is_part_of_run` meets its contract. Assumes nothing.
use Rattle.heap_rules.specs.Table.{is_of_run}
use Rattle.check_rules.specs.Check.{is_part_of_run}
use borrow.Author.Rules.{rules}
use Rattle.heap_tests.proofs.is_part_of_run.Goals as goal

pub returns : goal.returns
unfolding is_part_of_run is_of_run
returns c = search rules
