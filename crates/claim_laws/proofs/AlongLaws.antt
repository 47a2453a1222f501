-- What each call keeps is so along a list of calls. Assumes nothing.
use mathlib.Core.Path.{◌≡◌, sym, subst}
use mathlib.Core.List.{List, [], ◌∷◌}
use Prim.Native.Nat.{ℕ}
use Rattle.heap_rules.specs.declared.Setup.{Setup}
use Rattle.heap_rules.specs.declared.State.{State}
use Rattle.call_rules.specs.declared.Outcome.TheVariants.{Ready}
use Rattle.call_rules.specs.Answers.{After}
use Rattle.call_rules.specs.Setup.{setup_of}
use Rattle.call_rules.specs.Calls.{Call, call_of}
use Rattle.claim_rules.specs.Ledger.{Entry, ledger_after}
use Rattle.claim_rules.specs.Claim.{Step, Linked, Along, peak_with}
use Rattle.claim_laws.proofs.CallInvariantLaws.{ListInvariant, after_call}
use Rattle.claim_laws.proofs.Demand3.{list_invariant_after_setup}

-- of what a call left, with the ledger then
abbrev kept_by : (State → List ℕ → List Entry → Type 0) → List Entry → Call → After → Type 0
kept_by I ledger call after = I after.answer.state after.order (ledger_after ledger call after.answer.outcome)

-- what follows from something that each call keeps, of the state, the storage and the ledger, is so before a list and after each of its calls
module _ (I : State → List ℕ → List Entry → Type 0) (P : State → List Entry → Type 0)
    (follows : (s : State) (order : List ℕ) (ledger : List Entry) → I s order ledger → P s ledger)
    (kept : (s : State) (order : List ℕ) (ledger : List Entry) (call : Call) → I s order ledger → kept_by I ledger call (call_of s order call)) where
  pub along_of_kept : (before : After) (ledger : List Entry) (steps : List Step) → I before.answer.state before.order ledger → Linked before steps
      → Along P before ledger steps
  unfolding Linked Along
  along_of_kept before ledger [] i linked = follows before.answer.state before.order ledger i
  along_of_kept before ledger (step ∷ steps) i linked = (
    follows before.answer.state before.order ledger i,
    along_of_kept step.after (ledger_after ledger step.call step.after.answer.outcome) steps
        (subst (kept_by I ledger step.call) (sym linked.0) (kept before.answer.state before.order ledger step.call i)) linked.1,
  )

-- For every accepted setup, whatever stood in the storage before, and every list of takes and frees after it, plain and named, and of drops: what follows
-- from the invariant.
pub along_of_list_invariant : (u : Setup) (P : State → List Entry → Type 0)
    → ((s : State) (order : List ℕ) (ledger : List Entry) (peak : ℕ → ℕ) → ListInvariant u s order ledger peak → P s ledger)
    → (order : List ℕ) (start : After) → start ≡ setup_of u order → start.answer.outcome ≡ Ready → (steps : List Step) → Linked start steps
    → Along P start [] steps
along_of_list_invariant u P follows order start e ready steps linked =
    along_of_kept (λ s order ledger. (peak : ℕ → ℕ) × ListInvariant u s order ledger peak) P (λ s order ledger i. follows s order ledger i.0 i.1)
    (λ s order ledger call i.
    (peak_with i.0 (ledger_after ledger call (call_of s order call).answer.outcome), (after_call u s order ledger i.0 i.1 call).invariant))
    start [] steps ((λ c. 0), list_invariant_after_setup u order start e ready) linked
