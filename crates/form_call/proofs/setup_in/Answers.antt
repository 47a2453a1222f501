-- `form_call::setup_in` meets its contract. Assumes nothing.
use borrow.Author.Rules.{rules}
use Rattle.form_rules.specs.Form.{setup_in}
use Rattle.form_call.proofs.setup_in.Goals as goal

pub returns : goal.returns
unfolding setup_in
returns c = search rules
