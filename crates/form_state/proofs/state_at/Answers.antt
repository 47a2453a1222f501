-- `form_state::state_at` meets its contract: each call gives the superblock at its place. Assumes nothing.
use Rattle.std.proofs.Common.{◌+◌, ◌*◌, rules}
use Rattle.form_rules.specs.Form.{superblock_in}
use Rattle.form_rules.proofs.FromFnLaws.{listed_of_from_fn}
use Rattle.form_names.proofs.NamesInLaws.{names_in_position_after}
use Rattle.form_totals.proofs.TotalsInLaws.{totals_in_position_after}
use Rattle.form_state.proofs.StateInLaws.{superblock_in_position_after, state_in_of_parts}
use Rattle.form_state.proofs.state_at.Goals as goal

pub returns : goal.returns
returns c =
    state_in_of_parts _ _ _ _ _ _ c.setup_in.ensures
    (listed_of_from_fn _ _ (λ k. superblock_in c.args.bytes.now (c.args.at + 36 * k))
    (λ k superblock f called. (search (rules, superblock_in_position_after), search rules)) _ _ c.from_fn.ensures.items)
    (search names_in_position_after) (search totals_in_position_after)
