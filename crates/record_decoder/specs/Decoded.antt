-- What the code's answers mean at a position of a record: a refusal has its number and that offset. Assumes nothing.
use Rattle.std.specs.Prelude.{ℕ, Result, Ok, Err}
use Rattle.refusal_rules.specs.declared.Refusal.{Refusal}
use Rattle.refusal_rules.specs.RefusalNumbers.{number_of}
use Rattle.record_rules.specs.declared.Command.{Command}
use Rattle.record_rules.specs.declared.Command.TheVariants.{Refused}

-- the command that is read, or the refusal
abbrev pub command_of : Result Command Refusal → ℕ → Command
command_of (Ok command) at = command
command_of (Err refusal) at = Refused (number_of refusal) at
