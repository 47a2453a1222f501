-- `record_decoder::free_at` meets its contract: whole or not. Assumes nothing.
use Rattle.std.proofs.Common.{rules}
use Rattle.record_decoder.proofs.CommandAtLaws.{free_of_rest, truncated_free}
use Rattle.record_decoder.proofs.free_at.Goals as goal

pub returns : goal.returns
returns c = search (rules, free_of_rest)

pub returns-in_default : goal.returns-in_default
returns-in_default c = search (rules, truncated_free)
