-- "The list in demand 3"
use Rattle.std.specs.Prelude.{◌≡◌, Bool, false, List, [], ◌∷◌, ℕ, ◌+◌, ◌-◌, ◌*◌, ◌≤◌, ◌<◌, max, length}
use Rattle.base_laws.specs.Sums.{both}
use Rattle.class_rules.specs.Classes.{class_count, blocks_of, is_long}
use Rattle.heap_rules.specs.declared.Setup.{Setup}
use Rattle.heap_rules.specs.declared.State.{State}
use Rattle.heap_rules.specs.Counts.{superblocks_of_class, owners_changed, passed_between_heaps}
use Rattle.call_rules.specs.declared.Outcome.{Outcome}
use Rattle.call_rules.specs.declared.Outcome.TheVariants.{Moves, Refused}
use Rattle.call_rules.specs.Answers.{After}
use Rattle.call_rules.specs.Calls.{Call, Take, Free, NamedTake, NamedFree, Drop, call_of}
use Rattle.claim_rules.specs.Ledger.{Entry, is_at, is_at_one_of, has_name, ledger_after, entries_of, some_entry}

-- a call of the list, with what it returned and left
pub record Step : Type 0 where
  pub call : Call
  pub after : After

-- "Each gets the state that the one before it returned and the storage as that one left it; nothing else writes either meanwhile."
-- What a call leaves is what the contracts of the engine's entries promise.
unfoldable pub Linked : After → List Step → Type 0
Linked before [] = Unit {0}
Linked before (step ∷ steps) =
    (step.after ≡ call_of before.answer.state before.order step.call) × Linked step.after steps

-- the list that calls make, each by f
unfoldable pub steps_by : (State → List ℕ → Call → After) → After → List Call → List Step
steps_by f before [] = []
steps_by f before (call ∷ calls) =
    let after = f before.answer.state before.order call in
    record { call = call; after = after } ∷ steps_by f after calls

-- what the last call of a list left
unfoldable pub last_after : After → List Step → After
last_after before [] = before
last_after before (step ∷ steps) = last_after step.after steps

-- what is so of the state and of the ledger before a list and after each of its calls
unfoldable pub Along : (State → List Entry → Type 0) → After → List Entry → List Step → Type 0
Along P before ledger [] = P before.answer.state ledger
Along P before ledger (step ∷ steps) = P before.answer.state ledger
    × Along P step.after (ledger_after ledger step.call step.after.answer.outcome) steps

-- "(q - p) × n × A is at most q × M + (q - p) × P × K × n", for each of the 27 classes
unfoldable pub Bounded : Setup → State → (ℕ → ℕ) → Type 0
Bounded u s peak =
    (c : ℕ) → c < class_count
    → (u.q - u.p) * blocks_of c * superblocks_of_class c s ≤ u.q * peak c + (u.q - u.p) * u.processors * u.spare * blocks_of c

-- "a refused call changes none", of a call with so many owners changed
abbrev pub RefusedOwnerChanges : ℕ → Outcome → Type 0
RefusedOwnerChanges changed outcome = (r : ℕ) → outcome ≡ Refused r → changed ≡ 0

-- a long block is freed, where the call is accepted: by the ledger before it
unfoldable pub frees_run : List Entry → Call → Bool
frees_run ledger (Take processor size) = false
frees_run ledger (Free processor address) = some_entry (λ e. both (is_at address e) (is_long e.size)) ledger
frees_run ledger (NamedTake processor name size) = false
frees_run ledger (NamedFree processor name) = some_entry (λ e. both (has_name name e) (is_long e.size)) ledger
frees_run ledger (Drop processor addresses) = some_entry (λ e. both (is_at_one_of addresses e) (is_long e.size)) ledger

-- "no free changes the owner of more than q superblocks, an accepted one changes exactly as many owners as it reports moves", where "the q and reported
-- moves of a free or drop [count] only those that pass between heaps" (document 02, item 7): so many passed, and the most that may stands first. Where no
-- run is freed, these are all whose owners change.
abbrev pub FreeOwnerChanges : ℕ → ℕ → ℕ → Bool → Outcome → Type 0
FreeOwnerChanges most changed passed run outcome =
    (passed ≤ most) × ((m : ℕ) → outcome ≡ Moves m → passed ≡ m) × RefusedOwnerChanges changed outcome × (run ≡ false → changed ≡ passed)

-- both of a call; "a drop moves at most q superblocks for each address" (item 5)
unfoldable pub OwnerChanges : ℕ → ℕ → ℕ → Bool → Call → Outcome → Type 0
OwnerChanges q changed passed run (Take processor size) outcome = RefusedOwnerChanges changed outcome
OwnerChanges q changed passed run (Free processor address) outcome = FreeOwnerChanges q changed passed run outcome
OwnerChanges q changed passed run (NamedTake processor name size) outcome = RefusedOwnerChanges changed outcome
OwnerChanges q changed passed run (NamedFree processor name) outcome = FreeOwnerChanges q changed passed run outcome
OwnerChanges q changed passed run (Drop processor addresses) outcome = FreeOwnerChanges (q * length addresses) changed passed run outcome

-- of a call from state s, with the ledger before it, to state t
abbrev pub CallOwnerChanges : ℕ → List Entry → State → State → Call → Outcome → Type 0
CallOwnerChanges q ledger s t call outcome = OwnerChanges q (owners_changed s t) (passed_between_heaps s t) (frees_run ledger call) call outcome

-- "M is the most live blocks of the class after the setup (none) or any call up to and including this one."
abbrev pub peak_with : (ℕ → ℕ) → List Entry → ℕ → ℕ
peak_with peak ledger c = max (peak c) (entries_of c ledger)

-- The claim of a list, from a point at which the ledger and each class's M are known: the bound holds there, and after each call,
-- and OwnerChanges holds of each call.
unfoldable pub Claims : Setup → After → List Entry → (ℕ → ℕ) → List Step → Type 0
Claims u before ledger peak [] = Bounded u before.answer.state peak
Claims u before ledger peak (step ∷ steps) =
    Bounded u before.answer.state peak
    × CallOwnerChanges u.q ledger before.answer.state step.after.answer.state step.call step.after.answer.outcome
    × Claims u step.after (ledger_after ledger step.call step.after.answer.outcome)
    (peak_with peak (ledger_after ledger step.call step.after.answer.outcome)) steps
