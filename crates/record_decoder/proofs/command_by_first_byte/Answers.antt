-- `record_decoder::command_by_first_byte` meets its contract: each branch is one of the definition. Assumes nothing.
use Rattle.std.proofs.Common.{rules}
use Rattle.record_decoder.proofs.CommandAtLaws.{command_by_byte_0, command_by_byte_1, command_by_byte_2, command_by_byte_3, command_by_byte_4}
use Rattle.record_decoder.proofs.CommandAtLaws.{command_by_byte_5, unknown_command_byte, misplaced_call}
use Rattle.record_decoder.proofs.command_by_first_byte.Goals as goal

pub returns-in-0 : goal.returns-in-0
returns-in-0 c = search (rules, command_by_byte_0)

pub returns-in-6-to-255-2 : goal.returns-in-6-to-255-2
returns-in-6-to-255-2 c = search (rules, unknown_command_byte)

pub returns-in_default : goal.returns-in_default
returns-in_default c = search (rules, misplaced_call)

pub returns-in-1 : goal.returns-in-1
returns-in-1 c = search (rules, command_by_byte_1)

pub returns-in-2 : goal.returns-in-2
returns-in-2 c = search (rules, command_by_byte_2)

pub returns-in-3 : goal.returns-in-3
returns-in-3 c = search (rules, command_by_byte_3)

pub returns-in-4 : goal.returns-in-4
returns-in-4 c = search (rules, command_by_byte_4)

pub returns-in-5 : goal.returns-in-5
returns-in-5 c = search (rules, command_by_byte_5)
