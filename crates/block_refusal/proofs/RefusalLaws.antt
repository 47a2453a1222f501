-- A refusal's number is not 0, which is told where there is none. Assumes nothing.
use mathlib.Core.Path.{◌≡◌}
use native.Mathlib.Omega.{arith}
use Rattle.refusal_rules.specs.declared.Refusal.{Refusal}
use Rattle.refusal_rules.specs.declared.Refusal.TheVariants as kind
use Rattle.refusal_rules.specs.RefusalNumbers.{number_of}

pub number_above_0 : (r : Refusal) → number_of r ≡ 0 → ⊥
number_above_0 kind.SetupOutOfLimits e = omega arith
number_above_0 kind.NoSuchProcessor e = omega arith
number_above_0 kind.SizeTooLarge e = omega arith
number_above_0 kind.NoSuperblock e = omega arith
number_above_0 kind.AddressUnmapped e = omega arith
number_above_0 kind.AddressMisaligned e = omega arith
number_above_0 kind.BlockNotLive e = omega arith
number_above_0 kind.UnknownCommand e = omega arith
number_above_0 kind.CommandTruncated e = omega arith
number_above_0 kind.CommandMisplaced e = omega arith
number_above_0 kind.RecordTooLong e = omega arith
number_above_0 kind.StorageTooSmall e = omega arith
number_above_0 kind.StateInvalid e = omega arith
number_above_0 kind.NameUnavailable e = omega arith
number_above_0 kind.NameNotHeld e = omega arith
number_above_0 kind.DropEmpty e = omega arith
number_above_0 kind.NoRun e = omega arith
