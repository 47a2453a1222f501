-- `record_decoder::drop_at` meets its contract: whole, or cut before its count or among its addresses. Assumes nothing.
use Rattle.std.proofs.Common.{rules}
use Rattle.record_decoder.proofs.CommandAtLaws.{drop_of_rest, truncated_drop, truncated_addresses}
use Rattle.record_decoder.proofs.drop_at.Goals as goal

pub returns : goal.returns
returns c = search (rules, drop_of_rest)

pub returns-in_default : goal.returns-in_default
returns-in_default c = search (rules, truncated_drop)

pub returns-then-addresses-count : goal.returns-then-addresses-count
returns-then-addresses-count c = search (rules, truncated_addresses)
