-- What a caller of `setup_refusal` knows by the numbers of its contract. After `setup_refusal(u, order).map_err(|fault| fault.refusal(numbers))?`
-- the setup has no refusal, and at that exit it has the fault's. Assumes nothing.
use Rattle.std.proofs.Common.{◌≡◌, ℕ, ◌<◌, List, Result, Ok, Err, MatchResult, is_ok, true, refl, sym, arith}
use Rattle.refusal_rules.specs.declared.Refusal.{Refusal}
use Rattle.refusal_rules.specs.RefusalNumbers.{number_of}
use Rattle.heap_rules.specs.declared.Setup.{Setup}
use Rattle.check_limits.specs.declared.SetupFault.{SetupFault}
use Rattle.check_limits.specs.declared.SetupFault.TheVariants.{OutOfLimits, StorageTooSmall}
use Rattle.check_limits.specs.SetupRefusal.{setup_refusal, refusal_of_fault, number_of_fault, number_if_fault}

-- a fault as a refusal has the number that the fault is given
pub number_of_refusal_of_fault : (numbers : Refusal) (fault : SetupFault)
    → number_of (refusal_of_fault numbers fault) ≡ number_of_fault (number_of numbers) fault
number_of_refusal_of_fault numbers OutOfLimits = refl
number_of_refusal_of_fault numbers StorageTooSmall = refl

-- no fault is given 0, which stands for none
pub number_of_fault_positive : (numbers : ℕ) (fault : SetupFault) → 0 < numbers → 0 < number_of_fault numbers fault
number_of_fault_positive numbers OutOfLimits h = h
number_of_fault_positive numbers StorageTooSmall h = omega arith

-- a setup's fault, and the number that it is refused by
pub record FaultOf (numbers : ℕ) (u : Setup) (order : List ℕ) : Type 0 where
  pub fault : SetupFault
  pub number : number_of_fault numbers fault ≡ setup_refusal numbers u order

module _ (u : Setup) (order : List ℕ) (r : Result (Unit {0}) SetupFault) (e : (n : ℕ) → number_if_fault n r ≡ setup_refusal n u order) where
  pub no_setup_refusal_of_ok : (numbers : ℕ) → true ≡ is_ok r → setup_refusal numbers u order ≡ 0
  no_setup_refusal_of_ok numbers o = go r o (e numbers)
    where
      go : (t : Result (Unit {0}) SetupFault) → true ≡ is_ok t → number_if_fault numbers t ≡ setup_refusal numbers u order
          → setup_refusal numbers u order ≡ 0
      go (Ok x) o q = sym q
      go (Err fault) o q = absurd (cc)

  pub fault_of_err : (numbers y : Refusal) {P : Unit {0} → Type 0} {Q : SetupFault → Type 0} → MatchResult r P Q
      → ((x : Unit {0}) → P x → ⊥) → ((fault : SetupFault) → Q fault → y ≡ refusal_of_fault numbers fault)
      → (w : FaultOf (number_of numbers) u order) × (y ≡ refusal_of_fault numbers w.fault)
  fault_of_err numbers y {P} {Q} m ok err = go r m (e (number_of numbers))
    where
      go : (t : Result (Unit {0}) SetupFault) → MatchResult t P Q → number_if_fault (number_of numbers) t ≡ setup_refusal (number_of numbers) u order
          → (w : FaultOf (number_of numbers) u order) × (y ≡ refusal_of_fault numbers w.fault)
      go (Ok x) m q = absurd (ok x m)
      go (Err fault) m q = (record { fault = fault; number = q }, err fault m)
