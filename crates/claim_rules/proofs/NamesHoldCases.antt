-- What the claims of names must not hold of; the states and answers need not be what calls left. Assumes nothing.
use mathlib.Core.Path.{◌≡◌, refl}
use mathlib.Core.Logic.{inl, inr, ⊎_elim}
use mathlib.Core.List.{[], ◌∷◌, ◌++◌, map}
use Prim.Native.Nat.{ℕ, ◌<◌}
use native.Mathlib.Omega.{arith}
use lib.ListN.{replicate}
use Rattle.base_laws.proofs.Stages.{◌also◌}
use Rattle.names_rules.specs.Names.{is_name, block_named, is_held}
use Rattle.heap_rules.specs.declared.Setup.{Setup}
use Rattle.heap_rules.specs.declared.State.{State}
use Rattle.heap_rules.specs.Table.{unused}
use Rattle.heap_rules.specs.States.{with_names}
use Rattle.heap_rules.proofs.CaseStates.{unnamed_state}
use Rattle.heap_rules.proofs.TableCases.{of}
use Rattle.call_rules.specs.declared.Outcome.TheVariants.{Ready, Address, Moves, Refused}
use Rattle.call_rules.specs.Calls.{Free, NamedTake, NamedFree}
use Rattle.claim_rules.specs.Ledger.{Entry, named, unnamed}
use Rattle.claim_rules.specs.Claim.{Along}
use Rattle.claim_rules.specs.NamesClaim.{entries_named, NamesHold, NamesHoldOver, NameRefusals, NameRefusalsOver}
use Rattle.claim_rules.proofs.LedgerDefinitions.{entry, ledger_definitions}
use Rattle.claim_rules.proofs.CaseSteps.{after_with, step_with}

-- P = 2; block 2 of superblock 0, of class 20, has name 7, or no name has a block
abbrev setup_of_2 : Setup
setup_of_2 = record { processors = 2; superblocks = 20; spare = 5; p = 3; q = 7 }

abbrev not_named : State
not_named = unnamed_state setup_of_2 (of 1 20 4 ∷ replicate 63 unused)

abbrev name_7_held : State
name_7_held = with_names not_named (replicate 7 65535 ++ 2 ∷ replicate 1016 65535)

abbrev name_7 : Entry
name_7 = entry 1536 700 (named 7)

-- a name is counted, and not an address, a size or a block with no name
pub entries_named_cases :
    map (λ (m : ℕ). entries_named m (name_7 ∷ entry 9 16 unnamed ∷ entry 3 16 (named 9) ∷ name_7 ∷ [])) (7 ∷ 9 ∷ 3 ∷ 0 ∷ 16 ∷ 1536 ∷ [])
    ≡ 2 ∷ 1 ∷ 0 ∷ 0 ∷ 0 ∷ 0 ∷ []
unfolding entries_named ledger_definitions
entries_named_cases = refl

-- a held name that the ledger does not have, one of the ledger that is not held, and one of two blocks
pub names_hold_fails :
    (NamesHold name_7_held (entry 1536 700 unnamed ∷ []) → ⊥) × (NamesHold not_named (name_7 ∷ []) → ⊥) × (NamesHold name_7_held (name_7 ∷ name_7 ∷ []) → ⊥)
unfolding entries_named is_held is_name block_named ledger_definitions
names_hold_fails = (λ h. let z = h 7 in omega arith, λ h. let z = h 7 in omega arith, λ h. let z = h 7 in omega arith)

-- ---- lists
-- a name that is held before the list; one that is not held after its take; one that is held still after a free of its block, by address or by the name
pub names_hold_over_fails :
    (NamesHoldOver (after_with Ready name_7_held) [] (step_with (NamedTake 1 7 700) (Address 1536) name_7_held ∷ []) → ⊥)
    × (NamesHoldOver (after_with Ready not_named) [] (step_with (NamedTake 1 7 700) (Address 1536) not_named ∷ []) → ⊥)
    × (NamesHoldOver (after_with Ready name_7_held) (name_7 ∷ []) (step_with (Free 1 1536) (Moves 0) name_7_held ∷ []) → ⊥)
    × (NamesHoldOver (after_with Ready not_named) []
    (step_with (NamedTake 1 7 700) (Address 1536) name_7_held ∷ step_with (NamedFree 1 7) (Moves 0) name_7_held ∷ []) → ⊥)
unfolding Along entries_named is_held is_name block_named ledger_definitions
names_hold_over_fails = (
  λ h. let z = h.0 7 in omega arith,
  λ h. let z = h.1 7 in omega arith,
  λ h. let z = h.1 7 in omega arith,
  λ h. let z = h.1.1 7 in omega arith,
)

-- ---- refusals
Address_not_Refused : {a r : ℕ} → Address a ≡ Refused r → ⊥
Address_not_Refused {a} {r} e = let z : ◌≡◌ {A = ℕ} 0 1 = cc in omega arith

Moves_not_Refused : {m r : ℕ} → Moves m ≡ Refused r → ⊥
Moves_not_Refused {m} {r} e = let z : ◌≡◌ {A = ℕ} 0 1 = cc in omega arith

-- a take answered for a taken name, or for one above 1023; processors 1 and 2 are in range
pub taken_name_fails :
    (NameRefusals setup_of_2 (name_7 ∷ []) (NamedTake 2 7 16) (Address 0) → ⊥) × (NameRefusals setup_of_2 [] (NamedTake 1 1024 16) (Address 0) → ⊥)
unfolding NameRefusals entries_named ledger_definitions
taken_name_fails = (
  λ h. Address_not_Refused (h.1 (omega arith, omega arith, inr (omega arith))),
  λ h. Address_not_Refused (h.1 (omega arith, omega arith, inl (omega arith))),
)

-- one refused 14 for a name that the ledger does not have, or of a processor that is out of range
pub free_name_fails :
    (NameRefusals setup_of_2 (name_7 ∷ []) (NamedTake 2 1023 16) (Refused 14) → ⊥)
    × (NameRefusals setup_of_2 (name_7 ∷ []) (NamedTake 0 7 16) (Refused 14) → ⊥)
    × (NameRefusals setup_of_2 (name_7 ∷ []) (NamedTake 3 7 16) (Refused 14) → ⊥)
unfolding NameRefusals entries_named ledger_definitions
free_name_fails = (
  λ h. ⊎_elim (λ (above : 1023 < 1023). omega arith) (λ (some : 0 < 0). omega arith) (h.0 refl).2,
  λ h. let z = (h.0 refl).0 in omega arith,
  λ h. let z = (h.0 refl).1 in omega arith,
)

-- a free accepted for a name that the ledger does not have; one refused 15 for a name that it has, or of a processor that is out of range
pub named_free_refusals_fail :
    (NameRefusals setup_of_2 (name_7 ∷ []) (NamedFree 1 1536) (Moves 0) → ⊥) × (NameRefusals setup_of_2 (name_7 ∷ []) (NamedFree 1 7) (Refused 15) → ⊥)
    × (NameRefusals setup_of_2 [] (NamedFree 0 7) (Refused 15) → ⊥) × (NameRefusals setup_of_2 [] (NamedFree 3 7) (Refused 15) → ⊥)
unfolding NameRefusals entries_named ledger_definitions
named_free_refusals_fail = (
  λ h. Moves_not_Refused (h.1 (omega arith, omega arith, refl)),
  λ h. let z = (h.0 refl).2 in omega arith,
  λ h. let z = (h.0 refl).0 in omega arith,
  λ h. let z = (h.0 refl).1 in omega arith,
)

-- by the ledger before each call, to the last: a name that is taken twice, and one refused 14 after a free of its block by address
pub name_refusals_over_fails :
    (NameRefusalsOver setup_of_2 [] (step_with (NamedTake 1 7 700) (Address 1536) name_7_held ∷ step_with (NamedTake 1 7 700) (Address 2304) name_7_held
    ∷ []) → ⊥)
    × (NameRefusalsOver setup_of_2 (name_7 ∷ []) (step_with (Free 1 1536) (Moves 0) not_named ∷ step_with (NamedTake 1 7 700) (Refused 14) not_named ∷ []) → ⊥)
unfolding NameRefusalsOver NameRefusals entries_named ledger_definitions
name_refusals_over_fails = (
  λ h. Address_not_Refused (h.1.0.1 (omega arith, omega arith, inr (omega arith))),
  λ h. ⊎_elim (λ (above : 1023 < 7). omega arith) (λ (some : 0 < 0). omega arith) (h.1.0.0 refl).2,
)

-- what the dear cases of the claim unfold
unfoldable pub names_hold_cases_hold : Unit {0}
names_hold_cases_hold =
    entries_named_cases also names_hold_fails also names_hold_over_fails also taken_name_fails also free_name_fails
    also named_free_refusals_fail also name_refusals_over_fails also tt
