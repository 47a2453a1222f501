-- "Calls on one lent row are a list of their own, from the row an accepted setup wrote, and the claim holds of it too."
use Rattle.std.specs.Prelude.{◌≡◌, List, [], ◌∷◌, map, ℕ}
use Rattle.heap_rules.specs.declared.Setup.{Setup}
use Rattle.call_rules.specs.Calls.{Call}
use Rattle.call_rules.specs.Answers.{After}
use Rattle.claim_rules.specs.Ledger.{Entry}
use Rattle.claim_rules.specs.Claim.{Step, Claims}
use Rattle.row_rules.specs.Row.{RowAfter, state_of, row_call}

-- a call of the list, with what it returned and left
pub record RowStep : Type 0 where
  pub call : Call
  pub after : RowAfter

-- "Each gets the state that the one before it returned and the storage as that one left it; nothing else writes either meanwhile": the
-- control that the one before returned, and the row and the storage as it left them
unfoldable pub RowLinked : RowAfter → List RowStep → Type 0
RowLinked before [] = Unit {0}
RowLinked before (step ∷ steps) =
    (step.after ≡ row_call before.control before.row before.order step.call) × RowLinked step.after steps

-- what a call on a row left, its row read as a state's table
abbrev pub as_after : RowAfter → After
as_after a = record { answer = record { outcome = a.outcome; state = state_of a.control a.row }; order = a.order }

abbrev pub step_of : RowStep → Step
step_of step = record { call = step.call; after = as_after step.after }

-- The claim of a list, word for word that of a list of calls on states: superblocks and owners are counted in the row.
abbrev pub RowClaims : Setup → RowAfter → List Entry → (ℕ → ℕ) → List RowStep → Type 0
RowClaims u before ledger peak steps = Claims u (as_after before) ledger peak (map step_of steps)
