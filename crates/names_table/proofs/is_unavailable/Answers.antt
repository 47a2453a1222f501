-- `names_table::is_unavailable` meets its contract. Assumes nothing.
use borrow.Author.Rules.{rules}
use borrow.Author.Tests.{lt-ltb, le-ltb, le-leb}
use Rattle.names_rules.specs.Names.{is_name}
use Rattle.names_table.proofs.is_unavailable.Goals as goal

pub returns-then-name-ge-NAMES : goal.returns-then-name-ge-NAMES
unfolding is_name
returns-then-name-ge-NAMES c =
    let h = c.if-name-ge-NAMES.true in
    rw (le-ltb c.args.name 1024 h) (search (le-leb 1024 c.args.name h, rules))

pub returns-else-name-ge-NAMES : goal.returns-else-name-ge-NAMES
unfolding is_name
returns-else-name-ge-NAMES c = rw (lt-ltb c.args.name 1024 c.if-name-ge-NAMES.false) (search (c.is_held.ensures, rules))
