-- `record_decoder::command_at` meets its contract: each branch is one of the definition. Assumes nothing.
use Rattle.record_laws.proofs.RefusalTable.{has_numbers_of_equal}
use Rattle.record_decoder.proofs.CommandAtLaws.{command_at_of_too_long_record, command_at_is_command_by_first_byte, command_at_of_empty_record}
use Rattle.record_decoder.proofs.CommandAtLaws.{command_at_of_refusal, command_at_past_end}
use Rattle.record_decoder.proofs.command_at.Goals as goal

pub returns-then-bytes-gt-LONGEST_RECORD : goal.returns-then-bytes-gt-LONGEST_RECORD
returns-then-bytes-gt-LONGEST_RECORD c = record {
  value = search command_at_of_too_long_record;
  numbers =
      search (command_at_of_too_long_record, has_numbers_of_equal);
}

pub returns-in-Ok : goal.returns-in-Ok
returns-in-Ok c = record {
  value = search (command_at_is_command_by_first_byte, c.in-Ok.ensures);
  numbers = search (command_at_is_command_by_first_byte, has_numbers_of_equal, c.in-Ok.ensures);
}

pub returns-in-Err : goal.returns-in-Err
returns-in-Err c = record {
  value = search (command_at_of_refusal, c.in-Err.ensures);
  numbers = search (command_at_of_refusal, has_numbers_of_equal, c.in-Err.ensures);
}

pub returns-then-at-eq0 : goal.returns-then-at-eq0
returns-then-at-eq0 c = record {
  value = search command_at_of_empty_record;
  numbers =
      search (command_at_of_empty_record, has_numbers_of_equal);
}

pub returns : goal.returns
returns c = record { value = search command_at_past_end; numbers = search (command_at_past_end, has_numbers_of_equal) }
