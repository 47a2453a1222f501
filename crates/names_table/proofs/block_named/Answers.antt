-- `names_table::block_named` meets its contract. Assumes nothing.
use borrow.Author.Rules.{rules}
use Rattle.names_rules.specs.Names.{block_named}
use Rattle.names_table.proofs.block_named.Goals as goal

pub returns : goal.returns
unfolding block_named
returns c = search rules
