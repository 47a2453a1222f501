-- `class_table::block_count` meets its contract: the code's table is the printed column. Assumes nothing.
use mathlib.Core.Path.{◌≡◌}
use borrow.Author.Rules.{rules}
use Rattle.class_rules.specs.Classes.{counts, blocks_of}
use Rattle.class_rules.proofs.ClassTableLaws.{blocks_of_le_256}
use Rattle.class_table.proofs.block_count.Goals as goal

pub returns : goal.returns
unfolding blocks_of counts
returns c =
    let e : c.unwrap_or.result ≡ blocks_of c.args.class = search rules in
    (e, rw e (blocks_of_le_256 c.args.class))
