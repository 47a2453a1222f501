-- The definitions that a computed case of a record's commands unfolds, listed once: to unfold this name is to unfold all that its line names. Assumes nothing.
use Rattle.base_laws.specs.Lists.{listed}
use Rattle.bytes_rules.specs.Bytes.{fours_at}
use Rattle.record_rules.specs.Record.{unless_truncated, setup_at, unless_first, take_at, free_at, named_take_at, named_free_at, drop_at}
use Rattle.record_rules.specs.Record.{command_by_first_byte, command_at, call_byte, call_numbers, call_size, size_of_command, is_refused, commands_from}
use Rattle.record_rules.specs.Record.{commands_of}

unfoldable pub command_definitions : Unit {0}
unfolding commands_of commands_from command_at command_by_first_byte setup_at take_at free_at named_take_at named_free_at drop_at unless_first unless_truncated
    call_byte call_numbers call_size size_of_command is_refused fours_at listed
command_definitions = tt
