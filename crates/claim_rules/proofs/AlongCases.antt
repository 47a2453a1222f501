-- What is claimed along a list of calls, and how such a list is made, in cases that tell them from near misses; the states need not be what calls
-- left. Assumes nothing.
use mathlib.Core.Path.{◌≡◌, refl}
use mathlib.Core.List.{List, [], ◌∷◌}
use Prim.Native.Nat.{ℕ, ◌+◌}
use native.Mathlib.Omega.{arith}
use Rattle.base_laws.proofs.Stages.{◌also◌}
use Rattle.heap_rules.specs.declared.State.{State}
use Rattle.heap_rules.proofs.CaseStates.{unnamed_state}
use Rattle.call_rules.specs.declared.Outcome.TheVariants.{Ready, Address, Moves, Refused}
use Rattle.call_rules.specs.Answers.{After}
use Rattle.call_rules.specs.Calls.{Call, Take, Free, NamedTake, NamedFree, Drop, call_of}
use Rattle.claim_rules.specs.Ledger.{Entry, unnamed, entries_of}
use Rattle.claim_rules.specs.Claim.{Step, Linked, steps_by, last_after, Along}
use Rattle.claim_rules.proofs.LedgerDefinitions.{entry, ledger_definitions}
use Rattle.claim_rules.proofs.CaseSteps.{after_with, step_with}

-- ---- a claim that looks at the state and at the ledger: K is the number of live blocks of class 23
abbrev pub SpareIsLive : State → List Entry → Type 0
SpareIsLive s ledger = entries_of 23 ledger ≡ s.setup.spare

abbrev pub state_of_spare : ℕ → State
state_of_spare k = unnamed_state (record { processors = 2; superblocks = 20; spare = k; p = 3; q = 7 }) []

-- one block is live; a take adds one, another is refused, and a free takes the first away. K before the list, and after each of the three calls
abbrev pub one_entry : List Entry
one_entry = entry 9472 1280 unnamed ∷ []

abbrev pub three_calls : ℕ → ℕ → ℕ → List Step
three_calls a b c =
    step_with (Take 2 1100) (Address 16) (state_of_spare a) ∷ step_with (NamedTake 2 5 1100) (Refused 14) (state_of_spare b)
    ∷ step_with (Free 1 9472) (Moves 0) (state_of_spare c) ∷ []

abbrev pub SpareIsLiveAlong : ℕ → List Step → Type 0
SpareIsLiveAlong k steps = Along SpareIsLive (after_with Ready (state_of_spare k)) one_entry steps

-- it is so with 1, 2, 2 and 1. It is not where K is wrong before the list, of three calls and of none
pub along_fails_before_list : (SpareIsLiveAlong 0 (three_calls 2 2 1) → ⊥) × (SpareIsLiveAlong 0 [] → ⊥)
unfolding Along ledger_definitions
along_fails_before_list = (λ k. let z : ◌≡◌ {A = ℕ} 1 0 = k.0 in omega arith, λ k. let z : ◌≡◌ {A = ℕ} 1 0 = k in omega arith)

-- nor where it is after the first call as the ledger before that call has it
pub along_fails_after_first_call : SpareIsLiveAlong 1 (three_calls 1 2 1) → ⊥
unfolding Along ledger_definitions
along_fails_after_first_call k = let z : ◌≡◌ {A = ℕ} 2 1 = k.1.0 in omega arith

-- nor where it is wrong after the refused call in the middle alone
pub along_fails_after_middle_call : SpareIsLiveAlong 1 (three_calls 2 3 1) → ⊥
unfolding Along ledger_definitions
along_fails_after_middle_call k = let z : ◌≡◌ {A = ℕ} 2 3 = k.1.1.0 in omega arith

-- nor where it is after the last call as the ledger before that call has it
pub along_fails_after_last_call : SpareIsLiveAlong 1 (three_calls 2 2 2) → ⊥
unfolding Along ledger_definitions
along_fails_after_last_call k = let z : ◌≡◌ {A = ℕ} 1 2 = k.1.1.1 in omega arith

-- ---- the list that calls make: each takes what the one before it left, here K with its processor added, and a number in front of the storage
abbrev pub left : State → List ℕ → ℕ → ℕ → After
left s order i x = record { answer = record { outcome = Address x; state = state_of_spare (s.setup.spare + i) }; order = x ∷ order }

unfoldable pub numbers_left : State → List ℕ → Call → After
numbers_left s order (Take i size) = left s order i size
numbers_left s order (Free i address) = left s order i address
numbers_left s order (NamedTake i name size) = left s order i name
numbers_left s order (NamedFree i name) = left s order i name
numbers_left s order (Drop i addresses) = left s order i 99

abbrev pub numbers_before : After
numbers_before = record { answer = record { outcome = Ready; state = state_of_spare 10 }; order = 7 ∷ [] }

abbrev pub numbers_after : ℕ → ℕ → List ℕ → After
numbers_after spare x order = record { answer = record { outcome = Address x; state = state_of_spare spare }; order = order }

pub steps_by_cases :
    steps_by numbers_left numbers_before (Take 2 1100 ∷ Free 3 9472 ∷ NamedFree 4 5 ∷ [])
    ≡ record { call = Take 2 1100; after = numbers_after 12 1100 (1100 ∷ 7 ∷ []) }
    ∷ record { call = Free 3 9472; after = numbers_after 15 9472 (9472 ∷ 1100 ∷ 7 ∷ []) }
    ∷ record { call = NamedFree 4 5; after = numbers_after 19 5 (5 ∷ 9472 ∷ 1100 ∷ 7 ∷ []) } ∷ []
    × steps_by numbers_left numbers_before [] ≡ []
unfolding steps_by numbers_left
steps_by_cases = (refl, refl)

-- what the last call left; before the first, what there was
pub last_after_cases :
    last_after numbers_before (three_calls 2 4 6) ≡ after_with (Moves 0) (state_of_spare 6)
    × last_after numbers_before (step_with (Take 2 1100) (Refused 4) (state_of_spare 3) ∷ []) ≡ after_with (Refused 4) (state_of_spare 3)
    × last_after numbers_before [] ≡ numbers_before
unfolding last_after
last_after_cases = (refl, refl, refl)

-- "Each gets the state that the one before it returned and the storage as that one left it": the second and the third call of any three
pub linked_hands_on : (before : After) (a b c : Step) → Linked before (a ∷ b ∷ c ∷ [])
    → (a.after ≡ call_of before.answer.state before.order a.call) × (b.after ≡ call_of a.after.answer.state a.after.order b.call)
    × (c.after ≡ call_of b.after.answer.state b.after.order c.call)
unfolding Linked
linked_hands_on before a b c k = (k.0, k.1.0, k.1.1.0)

unfoldable pub along_holds : Unit {0}
along_holds =
    along_fails_before_list also along_fails_after_first_call also along_fails_after_middle_call also along_fails_after_last_call
    also steps_by_cases also last_after_cases also linked_hands_on also tt
