-- `key_replay::Replay::step` meets its contract. Assumes nothing.
use Rattle.key_replay.proofs.CommandStepLaws.{matched_command_is_command_at, call_at_of_no_address, stepped_of_refused_command}
use borrow.Author.Rules.{rules}
use Rattle.key_replay.proofs.Replay.step.Goals as goal

pub setup_step-requires : goal.setup_step-requires
setup_step-requires c = search (rules, matched_command_is_command_at)

pub call_step-requires : goal.call_step-requires
call_step-requires c = search (rules, call_at_of_no_address)

pub drop_step-requires : goal.drop_step-requires
drop_step-requires c = search (rules, matched_command_is_command_at)

pub returns-in-Refused : goal.returns-in-Refused
returns-in-Refused c = search (stepped_of_refused_command, matched_command_is_command_at)
