-- The names over lists of calls: what the claim must not hold of. The states need not be what calls left. Assumes nothing.
use mathlib.Core.Path.{◌≡◌, refl}
use mathlib.Core.Bool.{true, false}
use mathlib.Core.List.{List, [], ◌∷◌, map}
use Prim.Native.Nat.{ℕ}
use Rattle.base_laws.proofs.Stages.{◌also◌}
use Rattle.base_laws.proofs.TestLaws.{true_not_false}
use Rattle.class_rules.specs.Classes.{sizes, size_of}
use Rattle.names_rules.specs.Names.{is_name, block_named, is_held}
use Rattle.heap_rules.specs.declared.State.{State}
use Rattle.heap_rules.specs.Table.{unused}
use Rattle.heap_rules.specs.States.{with_names}
use Rattle.heap_rules.proofs.CaseStates.{unnamed_state}
use Rattle.heap_rules.proofs.TableCases.{of, small_setup}
use Rattle.call_rules.specs.declared.Outcome.TheVariants.{Ready, Address, Moves, Refused}
use Rattle.call_rules.specs.Take.{address_of}
use Rattle.call_rules.specs.Named.{held_address}
use Rattle.call_rules.specs.Calls.{NamedTake, NamedFree}
use Rattle.claim_rules.specs.Ledger.{named, unnamed}
use Rattle.claim_rules.specs.Claim.{Along}
use Rattle.claim_rules.specs.NamesClaim.{holds_address, NamesAgree, NamesAgreeOver}
use Rattle.claim_rules.proofs.LedgerDefinitions.{entry, ledger_definitions}
use Rattle.claim_rules.proofs.CaseSteps.{after_with, step_with}
use Rattle.claim_rules.proofs.AlongCases.{along_holds}

-- Superblock 1 is heap 2's, of class 26. The names are as given, from name 0 on, and those behind them are not held. Name 1 holds its second
-- block, at 6144.
abbrev pub state_named : List ℕ → State
state_named names = with_names (unnamed_state small_setup (unused ∷ of 2 26 3 ∷ [])) names

abbrev pub name_1 : State
name_1 = state_named (65535 ∷ 257 ∷ [])

abbrev pub no_name : State
no_name = state_named []

-- what a case of them unfolds
unfoldable pub names_definitions : Unit {0}
unfolding along_holds holds_address is_held is_name block_named held_address address_of size_of sizes ledger_definitions
names_definitions = tt

-- the address that the name holds, and no other; none where the name is not held, and not that of the number that says so
pub holds_address_cases :
    map (λ (x : ℕ × ℕ). holds_address name_1 x.0 x.1) ((1, 6144) ∷ (1, 4096) ∷ (1, 257) ∷ (0, 6144) ∷ (0, 1048560) ∷ (6144, 1) ∷ [])
    ≡ true ∷ false ∷ false ∷ false ∷ false ∷ false ∷ []
unfolding names_definitions
holds_address_cases = refl

-- an entry with a name that the state does not hold; with the name and another address; with another name; and, behind the right one, an entry
-- that has no name where a name holds its block
pub entry_of_other_name_fails :
    (NamesAgree no_name (entry 6144 2048 (named 1) ∷ []) → ⊥) × (NamesAgree name_1 (entry 4096 2048 (named 1) ∷ []) → ⊥)
    × (NamesAgree name_1 (entry 6144 2048 (named 2) ∷ []) → ⊥)
    × (NamesAgree name_1 (entry 6144 2048 (named 1) ∷ entry 6144 2048 unnamed ∷ []) → ⊥)
unfolding names_definitions
entry_of_other_name_fails = (
  λ k. true_not_false true refl (k.entries.0 1),
  λ k. true_not_false true refl (k.entries.0 1),
  λ k. true_not_false true refl (k.entries.0 2),
  λ k. true_not_false false (k.entries.1.0 1) refl,
)

-- a name that the state holds, and the ledger does not have, or with another address
pub held_name_not_in_ledger_fails :
    (NamesAgree name_1 [] → ⊥) × (NamesAgree name_1 (entry 4096 2048 unnamed ∷ []) → ⊥)
    × (NamesAgree name_1 (entry 4096 2048 (named 1) ∷ []) → ⊥)
unfolding names_definitions
held_name_not_in_ledger_fails = (λ k. k.held 1 tt, λ k. k.held 1 tt, λ k. k.held 1 tt)

-- over a list: beside a block that has no name one is taken by name 1, a take by the same name is refused, and the block is freed
abbrev pub NamesOver : State → State → State → State → Type 0
NamesOver a b c d =
    NamesAgreeOver (after_with Ready a) (entry 4096 1800 unnamed ∷ [])
    (step_with (NamedTake 2 1 2048) (Address 6144) b ∷ step_with (NamedTake 1 1 16) (Refused 14) c ∷ step_with (NamedFree 2 1) (Moves 0) d ∷ [])

-- the name is held before its take, it is not after it, it is let go by the refused call, or kept after the free
pub names_wrong_over_list_fail :
    (NamesOver name_1 name_1 name_1 no_name → ⊥) × (NamesOver no_name no_name name_1 no_name → ⊥) × (NamesOver no_name name_1 no_name no_name → ⊥)
    × (NamesOver no_name name_1 name_1 name_1 → ⊥)
unfolding Along names_definitions
names_wrong_over_list_fail = (
  λ k. k.0.held 1 tt,
  λ k. true_not_false true refl (k.1.0.entries.0 1),
  λ k. true_not_false true refl (k.1.1.0.entries.0 1),
  λ k. k.1.1.1.held 1 tt,
)

unfoldable pub names_claim_holds : Unit {0}
names_claim_holds = holds_address_cases also entry_of_other_name_fails also held_name_not_in_ledger_fails also names_wrong_over_list_fail also tt
