-- The first refusal of a call on a lent row, by what its code finds. Assumes nothing.
use Rattle.std.proofs.Common.{◌≡◌, ℕ, ◌<◌, List, refl, arith, eqb}
use Rattle.base_laws.specs.Sums.{pick}
use borrow.Author.Tests.{eq-eqb, ne_eqb}
use Rattle.refusal_rules.specs.declared.Refusal.{Refusal}
use Rattle.refusal_rules.specs.RefusalNumbers.{number_of}
use Rattle.heap_rules.specs.declared.Setup.{Setup}
use Rattle.check_limits.specs.declared.SetupFault.{SetupFault}
use Rattle.check_limits.specs.SetupRefusal.{setup_refusal, number_of_fault}
use Rattle.check_limits.proofs.SetupFaultLaws.{number_of_refusal_of_fault, number_of_fault_positive}
use Rattle.row_by_value.specs.RowRefusal.{row_first_refusal, refusal_of_row_fault, number_of_row_fault}
use Rattle.row_by_value.specs.declared.RowFault.{RowFault}
use Rattle.row_by_value.specs.declared.RowFault.TheVariants as row

-- a fault as a refusal has the number that the fault is given
pub number_of_refusal_of_row_fault : (numbers : Refusal) (fault : RowFault)
    → number_of (refusal_of_row_fault numbers fault) ≡ number_of_row_fault (number_of numbers) fault
number_of_refusal_of_row_fault numbers (row.Setup fault) = number_of_refusal_of_fault numbers fault
number_of_refusal_of_row_fault numbers row.Length = refl

module _ (numbers n : ℕ) (order : List ℕ) (u : Setup) where
  pub row_first_refusal_of_fault : 0 < numbers → (fault : SetupFault) → number_of_fault numbers fault ≡ setup_refusal numbers u order
      → number_of_fault numbers fault ≡ row_first_refusal numbers n order u
  unfolding row_first_refusal
  row_first_refusal_of_fault h fault e =
      rw (← e, ne_eqb (number_of_fault numbers fault) 0 (λ z. omega (arith, number_of_fault_positive numbers fault h)))

  module _ (none : 0 ≡ setup_refusal numbers u order) where
    pub row_first_refusal_of_length : (n ≡ 64 → ⊥) → 13 ≡ row_first_refusal numbers n order u
    unfolding row_first_refusal
    row_first_refusal_of_length f = rw (← none, ne_eqb n 64 f)

    pub row_first_refusal_of_none : n ≡ 64 → 0 ≡ row_first_refusal numbers n order u
    unfolding row_first_refusal
    row_first_refusal_of_none e = rw (← none, eq-eqb n 64 e)

-- where setup numbers have the number 0
pub row_first_refusal_of_fault_0 : (n : ℕ) (order : List ℕ) (u : Setup) (fault : SetupFault) → number_of_fault 0 fault ≡ setup_refusal 0 u order
    → pick (eqb (number_of_fault 0 fault) 0) (pick (eqb n 64) 0 13) (number_of_fault 0 fault) ≡ row_first_refusal 0 n order u
unfolding row_first_refusal
row_first_refusal_of_fault_0 n order u fault e = rw (← e) refl
