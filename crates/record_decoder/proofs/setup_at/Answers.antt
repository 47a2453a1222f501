-- `record_decoder::setup_at` meets its contract: not first, whole or not. Assumes nothing.
use Rattle.std.proofs.Common.{rules}
use borrow.Author.Tests.{le-leb, lt-leb, eq-eqb, ne_eqb}
use Rattle.record_rules.specs.Record.{setup_at, unless_truncated}
use Rattle.record_decoder.proofs.setup_at.Goals as goal

pub returns-then-at-ne0 : goal.returns-then-at-ne0
unfolding setup_at
returns-then-at-ne0 c = search (ne_eqb)

pub returns : goal.returns
unfolding setup_at unless_truncated
returns c = search (rules, eq-eqb, le-leb)

pub returns-in_default : goal.returns-in_default
unfolding setup_at unless_truncated
returns-in_default c = search (rules, eq-eqb, lt-leb)
