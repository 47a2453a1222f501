-- `key_replay::Replay::drop_step` meets its contract. Assumes nothing.
use Rattle.bytes_rules.proofs.FoursLaws.{fours_read_counted}
use Rattle.key_replay.proofs.CommandStepLaws.{call_at_of_addresses}
use borrow.Author.Rules.{rules}
use Rattle.key_replay.proofs.Replay.drop_step.Goals as goal

pub slice_bounds-call_step-end : goal.slice_bounds-call_step-end
slice_bounds-call_step-end c = search fours_read_counted

pub call_step-requires : goal.call_step-requires
call_step-requires c = search (rules, call_at_of_addresses)
