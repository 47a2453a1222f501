-- The refusals of a call on a lent row before any superblock is looked at, as one number, and that number of what the code answers.
use Rattle.std.specs.Prelude.{ℕ, ⊤, List, Result, Ok, Err, eqb}
use Rattle.base_laws.specs.Sums.{pick}
use Rattle.refusal_rules.specs.declared.Refusal.{Refusal}
use Rattle.refusal_rules.specs.declared.Refusal.TheVariants.{StateInvalid}
use Rattle.refusal_rules.specs.Refusals.{state_invalid}
use Rattle.heap_rules.specs.declared.Setup.{Setup}
use Rattle.heap_rules.specs.Table.{table_length}
use Rattle.check_limits.specs.SetupRefusal.{setup_refusal, refusal_of_fault, number_of_fault}
use Rattle.row_by_value.specs.declared.RowFault.{RowFault}
use Rattle.row_by_value.specs.declared.RowFault.TheVariants as fault

-- a setup's refusals, the number for its numbers and then 12, then 13 for the row's length; 0 where none applies
unfoldable pub row_first_refusal : ℕ → ℕ → List ℕ → Setup → ℕ
row_first_refusal numbers n order u = pick (eqb (setup_refusal numbers u order) 0) (pick (eqb n table_length) 0 state_invalid) (setup_refusal numbers u order)

-- a fault as a refusal, and by its number, where setup numbers outside their limits are refused so
abbrev pub refusal_of_row_fault : Refusal → RowFault → Refusal
refusal_of_row_fault numbers (fault.Setup f) = refusal_of_fault numbers f
refusal_of_row_fault numbers fault.Length = StateInvalid

abbrev pub number_of_row_fault : ℕ → RowFault → ℕ
number_of_row_fault numbers (fault.Setup f) = number_of_fault numbers f
number_of_row_fault numbers fault.Length = state_invalid

-- the same of what the code answers; 0 where it finds no fault
abbrev pub number_if_row_fault : ℕ → Result ⊤ RowFault → ℕ
number_if_row_fault numbers (Ok passed) = 0
number_if_row_fault numbers (Err f) = number_of_row_fault numbers f

-- and where setup numbers are given the number 0, which is no refusal's: the row's length is told in their place
abbrev pub number_if_row_fault_of_0 : ℕ → Result ⊤ RowFault → ℕ
number_if_row_fault_of_0 n (Ok passed) = 0
number_if_row_fault_of_0 n (Err (fault.Setup f)) = pick (eqb (number_of_fault 0 f) 0) (pick (eqb n table_length) 0 state_invalid) (number_of_fault 0 f)
number_if_row_fault_of_0 n (Err fault.Length) = state_invalid
