-- `form_names::names_at` meets its contract: each call gives the name at its place. Assumes nothing.
use Rattle.std.proofs.Common.{◌+◌, ◌*◌, rules}
use Rattle.bytes_rules.specs.Bytes.{two_at}
use Rattle.form_rules.specs.Form.{names_in}
use Rattle.form_rules.proofs.FromFnLaws.{listed_of_from_fn}
use Rattle.form_names.proofs.names_at.Goals as goal

pub returns : goal.returns
unfolding names_in
returns c =
    listed_of_from_fn _ _ (λ m. two_at c.args.bytes.now (c.args.at + 2 * m)) (λ m name f called. (search rules, search rules)) _ _
    c.from_fn.ensures.items
