-- Lists of calls after an accepted setup: the check of the state refuses none of them. Assumes nothing.
use mathlib.Core.Path.{◌≡◌, refl, ap, ◌∙◌}
use mathlib.Core.List.{List, [], ◌∷◌}
use Prim.Native.Nat.{ℕ}
use Rattle.heap_rules.specs.declared.Setup.{Setup}
use Rattle.heap_rules.specs.declared.State.{State}
use Rattle.call_rules.specs.declared.Outcome.TheVariants.{Ready}
use Rattle.call_rules.specs.Answers.{After}
use Rattle.call_rules.specs.Setup.{setup_of}
use Rattle.call_rules.specs.Calls.{Call, call_of, call_unchecked}
use Rattle.call_rules.proofs.CheckFirst.{call_of_checks_first}
use Rattle.call_laws.proofs.CallEffects.{Passed}
use Rattle.claim_rules.specs.Ledger.{Entry, ledger_after}
use Rattle.claim_rules.specs.Claim.{Step, Linked, Claims, peak_with, steps_by}
use Rattle.call_laws.proofs.CheckedLaws.{checked_is_next_of_passed}
use Rattle.claim_laws.proofs.CallInvariantLaws.{ListInvariant, after_call}
use Rattle.claim_laws.proofs.Demand3.{list_invariant_after_setup, demand_3}

-- a call is the one behind the check, where the state passes
pub call_of_is_unchecked : (s : State) (order : List ℕ) (call : Call) → Passed s order → call_of s order call ≡ call_unchecked s order call
call_of_is_unchecked s order call p = call_of_checks_first s order call ∙ checked_is_next_of_passed s order (call_unchecked s order call) p

-- any calls make such a list
pub steps_linked : (before : After) (calls : List Call) → Linked before (steps_by call_of before calls)
unfolding steps_by Linked
steps_linked before [] = tt
steps_linked before (call ∷ calls) = (refl, steps_linked (call_of before.answer.state before.order call) calls)

-- demand 3 of the calls alone
pub demand_3_calls : (u : Setup) (order : List ℕ) → (setup_of u order).answer.outcome ≡ Ready → (calls : List Call)
    → Claims u (setup_of u order) [] (λ c. 0) (steps_by call_of (setup_of u order) calls)
demand_3_calls u order ready calls = demand_3 u order (setup_of u order) refl ready (steps_by call_of (setup_of u order) calls)
    (steps_linked (setup_of u order) calls)

steps_are_unchecked_from : (u : Setup) (before : After) (ledger : List Entry) (peak : ℕ → ℕ) (calls : List Call) → ListInvariant u before.answer.state
    before.order ledger peak
    → steps_by call_of before calls ≡ steps_by call_unchecked before calls
unfolding steps_by
steps_are_unchecked_from u before ledger peak [] g = refl
steps_are_unchecked_from u before ledger peak (call ∷ calls) g =
    let after = call_of before.answer.state before.order call in
    let n = after_call u before.answer.state before.order ledger peak g call in
    let e = call_of_is_unchecked before.answer.state before.order call g.passed in
    ap (λ (l : List Step). record { call = call; after = after } ∷ l) (steps_are_unchecked_from u after (ledger_after ledger call after.answer.outcome)
    (peak_with peak (ledger_after ledger call after.answer.outcome)) calls n.invariant)
    ∙ ap (λ (x : After). let step : Step = record { call = call; after = x } in step ∷ steps_by call_unchecked x calls) e

-- after an accepted setup the check is never in the way
pub steps_are_unchecked : (u : Setup) (order : List ℕ) → (setup_of u order).answer.outcome ≡ Ready → (calls : List Call)
    → steps_by call_of (setup_of u order) calls ≡ steps_by call_unchecked (setup_of u order) calls
steps_are_unchecked u order ready calls = steps_are_unchecked_from u (setup_of u order) [] (λ c. 0) calls
    (list_invariant_after_setup u order (setup_of u order) refl ready)
