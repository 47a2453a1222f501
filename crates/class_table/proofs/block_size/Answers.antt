-- `class_table::block_size` meets its contract: the code's table is the printed column. Assumes nothing.
use borrow.Author.Rules.{rules}
use Rattle.class_rules.specs.Classes.{sizes, size_of}
use Rattle.class_table.proofs.block_size.Goals as goal

pub returns : goal.returns
unfolding size_of sizes
returns c = search rules
