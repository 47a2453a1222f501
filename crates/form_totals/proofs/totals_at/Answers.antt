-- `form_totals::totals_at` meets its contract: each call gives the total at its place. Assumes nothing.
use Rattle.std.proofs.Common.{◌+◌, ◌*◌, List, ℕ, ap₂, rules}
use Rattle.bytes_rules.specs.Bytes.{byte_at, two_at}
use Rattle.heap_rules.specs.Totals.{total_count}
use Rattle.form_rules.specs.Form.{totals_in}
use Rattle.form_rules.proofs.FromFnLaws.{listed_of_from_fn}
use Rattle.form_totals.proofs.totals_at.Goals as goal

pub returns : goal.returns
unfolding totals_in
returns c =
    ap₂ (λ (superblocks live : List ℕ). record { superblocks = superblocks; live = live })
    (listed_of_from_fn _ _ (λ x. byte_at c.args.bytes.now (c.args.at + x))
    (λ x total f called. (search rules, search rules)) _ _
    c.from_fn-superblocks.ensures.items)
    (listed_of_from_fn _ _ (λ x. two_at c.args.bytes.now (c.args.at + (total_count + 2 * x)))
    (λ x total f called. (search rules, search rules)) _ _
    c.from_fn-live.ensures.items)
