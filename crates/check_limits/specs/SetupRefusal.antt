-- The refusals of a setup, as one number, and that number of what the code answers.
use Rattle.std.specs.Prelude.{ℕ, ◌*◌, ⊤, List, Result, Ok, Err, length, leb}
use Rattle.base_laws.specs.Sums.{pick}
use Rattle.order_rules.specs.Order.{places_each}
use Rattle.refusal_rules.specs.declared.Refusal.{Refusal}
use Rattle.refusal_rules.specs.declared.Refusal.TheVariants as refused
use Rattle.refusal_rules.specs.Refusals.{storage_too_small}
use Rattle.heap_rules.specs.declared.Setup.{Setup}
use Rattle.check_rules.specs.Check.{within_limits}
use Rattle.check_limits.specs.declared.SetupFault.{SetupFault}
use Rattle.check_limits.specs.declared.SetupFault.TheVariants.{OutOfLimits, StorageTooSmall}

-- "a setup number outside its limits", by the number that the call gives it (1, or 13 where a state carries the setup);
-- 12, "fewer than N × 256 order places lent"; 0 where neither applies
unfoldable pub setup_refusal : ℕ → Setup → List ℕ → ℕ
setup_refusal numbers u order = pick (within_limits u) (pick (leb (u.superblocks * places_each) (length order)) 0 storage_too_small) numbers

-- a fault as a refusal, and by its number, where setup numbers outside their limits are refused so
abbrev pub refusal_of_fault : Refusal → SetupFault → Refusal
refusal_of_fault numbers OutOfLimits = numbers
refusal_of_fault numbers StorageTooSmall = refused.StorageTooSmall

abbrev pub number_of_fault : ℕ → SetupFault → ℕ
number_of_fault numbers OutOfLimits = numbers
number_of_fault numbers StorageTooSmall = storage_too_small

-- the same of what the code answers; 0 where it finds no fault
abbrev pub number_if_fault : ℕ → Result ⊤ SetupFault → ℕ
number_if_fault numbers (Ok x) = 0
number_if_fault numbers (Err fault) = number_of_fault numbers fault
