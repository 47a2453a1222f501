-- The number that each refusal has. Assumes nothing.
use Rattle.std.specs.Prelude.{ℕ, Result, Ok, Err, ⊤}
use Rattle.refusal_rules.specs.declared.Refusal.{Refusal}
use Rattle.refusal_rules.specs.declared.Refusal.TheVariants as kind
use Rattle.refusal_rules.specs.Refusals as numbers

abbrev pub number_of : Refusal → ℕ
number_of kind.SetupOutOfLimits = numbers.setup_out_of_limits
number_of kind.NoSuchProcessor = numbers.no_such_processor
number_of kind.SizeTooLarge = numbers.size_too_large
number_of kind.NoSuperblock = numbers.no_superblock
number_of kind.AddressUnmapped = numbers.address_unmapped
number_of kind.AddressMisaligned = numbers.address_misaligned
number_of kind.BlockNotLive = numbers.block_not_live
number_of kind.UnknownCommand = numbers.unknown_command
number_of kind.CommandTruncated = numbers.command_truncated
number_of kind.CommandMisplaced = numbers.command_misplaced
number_of kind.RecordTooLong = numbers.record_too_long
number_of kind.StorageTooSmall = numbers.storage_too_small
number_of kind.StateInvalid = numbers.state_invalid
number_of kind.NameUnavailable = numbers.name_unavailable
number_of kind.NameNotHeld = numbers.name_not_held
number_of kind.DropEmpty = numbers.drop_empty
number_of kind.NoRun = numbers.no_run

-- the number that a test gives: 0 where nothing is refused
abbrev pub number_if_refused : Result ⊤ Refusal → ℕ
number_if_refused (Ok passed) = 0
number_if_refused (Err refusal) = number_of refusal
