-- `names_table::is_held` meets its contract. Assumes nothing.
use native.Mathlib.Omega.{arith}
use borrow.Author.Tests.{lt-ltb, le-ltb}
use Rattle.std.proofs.lemmas.List.{get_or_default}
use Rattle.names_rules.specs.Names.{not_held, is_name, block_named, is_held}
use Rattle.names_table.proofs.is_held.Goals as goal

pub returns-then-name-lt-NAMES : goal.returns-then-name-lt-NAMES
unfolding is_held is_name block_named
returns-then-name-lt-NAMES c =
    let a = c.args in
    rw (lt-ltb a.name 1024 c.if-name-lt-NAMES.true, get_or_default a.names a.name not_held 0 (omega arith))

pub returns-else-name-lt-NAMES : goal.returns-else-name-lt-NAMES
unfolding is_held is_name
returns-else-name-lt-NAMES c = rw (le-ltb c.args.name 1024 c.if-name-lt-NAMES.false)
