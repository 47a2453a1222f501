-- The names of a state, over lists of calls (document 02, item 2).
use Rattle.std.specs.Prelude.{◌≡◌, Bool, ◌⊎◌, ◌↔◌, List, [], ◌∷◌, ℕ, ◌+◌, ◌≤◌, ◌<◌, T, eqb}
use Rattle.base_laws.specs.Sums.{both, one}
use Rattle.names_rules.specs.Names.{name_count, is_held}
use Rattle.refusal_rules.specs.Refusals.{name_unavailable, name_not_held}
use Rattle.heap_rules.specs.declared.Setup.{Setup}
use Rattle.heap_rules.specs.declared.State.{State}
use Rattle.call_rules.specs.declared.Outcome.{Outcome}
use Rattle.call_rules.specs.declared.Outcome.TheVariants.{Refused}
use Rattle.call_rules.specs.Answers.{After}
use Rattle.call_rules.specs.Named.{held_address}
use Rattle.call_rules.specs.Calls.{Call, Take, Free, NamedTake, NamedFree, Drop}
use Rattle.claim_rules.specs.Ledger.{Entry, is_at, has_name, ledger_after, some_entry, EachEntry}
use Rattle.claim_rules.specs.Claim.{Step, Along}

-- name m is held, and by the block at address a
unfoldable pub holds_address : State → ℕ → ℕ → Bool
holds_address s m a = both (is_held s.names m) (eqb a (held_address s m))

-- each block of the ledger has just the name that the state has for it, and each name that the state holds is in the ledger, with its block's address
pub record NamesAgree (s : State) (ledger : List Entry) : Type 0 where
  pub entries : EachEntry (λ e. (m : ℕ) → has_name m e ≡ holds_address s m e.address) ledger
  pub held : (m : ℕ) → T (is_held s.names m) → T (some_entry (λ e. both (has_name m e) (is_at (held_address s m) e)) ledger)

abbrev pub NamesAgreeOver : After → List Entry → List Step → Type 0
NamesAgreeOver before ledger steps = Along NamesAgree before ledger steps

-- how often the ledger has a block of name m
unfoldable pub entries_named : ℕ → List Entry → ℕ
entries_named m [] = 0
entries_named m (e ∷ ledger) = one (has_name m e) + entries_named m ledger

-- "A name holds from its take until its block is freed by either command": the ledger has a name just so long, and the state holds those that it has, each
-- for one block
abbrev pub NamesHold : State → List Entry → Type 0
NamesHold s ledger = (m : ℕ) → entries_named m ledger ≡ one (is_held s.names m)

abbrev pub NamesHoldOver : After → List Entry → List Step → Type 0
NamesHoldOver before ledger steps = Along NamesHold before ledger steps

-- .. "then may be used again": by the ledger before a call, refusal 14 is for a "taken name or one above 1023, on a named take after 2", and 15 for a
-- "name not held, on a named free after 2", and each is given exactly then
unfoldable pub NameRefusals : Setup → List Entry → Call → Outcome → Type 0
NameRefusals u ledger (Take processor size) outcome = Unit {0}
NameRefusals u ledger (Free processor address) outcome = Unit {0}
NameRefusals u ledger (NamedTake processor name size) outcome =
    (outcome ≡ Refused name_unavailable) ↔ ((1 ≤ processor) × (processor ≤ u.processors) × ((name_count ≤ name) ⊎ (0 < entries_named name ledger)))
NameRefusals u ledger (NamedFree processor name) outcome =
    (outcome ≡ Refused name_not_held) ↔ ((1 ≤ processor) × (processor ≤ u.processors) × (entries_named name ledger ≡ 0))
NameRefusals u ledger (Drop processor addresses) outcome = Unit {0}

-- of each call of a list
unfoldable pub NameRefusalsOver : Setup → List Entry → List Step → Type 0
NameRefusalsOver u ledger [] = Unit {0}
NameRefusalsOver u ledger (step ∷ steps) =
    NameRefusals u ledger step.call step.after.answer.outcome
    × NameRefusalsOver u (ledger_after ledger step.call step.after.answer.outcome) steps
