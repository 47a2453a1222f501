-- `form_lists::load_addresses` meets its contract: each call gives the address at its place. Assumes nothing.
use Rattle.std.proofs.Common.{◌+◌, ◌*◌, rules}
use Rattle.bytes_rules.specs.Bytes.{four_at}
use Rattle.form_rules.proofs.FromFnLaws.{listed_of_from_fn}
use Rattle.form_lists.proofs.AddressesInLaws.{addresses_in_of_all}
use Rattle.form_lists.proofs.load_addresses.Goals as goal

pub returns : goal.returns
returns c =
    addresses_in_of_all _ _
    (listed_of_from_fn _ _ (λ i. four_at c.args.bytes.now (9 + 4 * i)) (λ i address f called. (search rules, search rules)) _ _
    c.from_fn.ensures.items)
