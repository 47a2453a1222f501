-- `block_name::bound_by` meets its contract. Assumes nothing.
use borrow.Author.Rules.{rules}
use Rattle.call_rules.specs.Named.{bound_by}
use Rattle.block_name.proofs.bound_by.Goals as goal

pub returns-in-Address : goal.returns-in-Address
unfolding bound_by
returns-in-Address c = search rules
