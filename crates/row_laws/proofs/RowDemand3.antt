-- Demand 3 of a lent row. Assumes nothing.
use mathlib.Core.Path.{◌≡◌, refl, sym, ap, ◌∙◌}
use mathlib.Core.List.{List, [], ◌∷◌, map}
use Prim.Native.Nat.{ℕ}
use lib.ListN.{length}
use Rattle.heap_rules.specs.declared.Superblock.{Superblock}
use Rattle.heap_rules.specs.declared.Setup.{Setup}
use Rattle.call_rules.specs.declared.Outcome.TheVariants.{Ready}
use Rattle.call_rules.specs.Answers.{After}
use Rattle.call_rules.specs.Calls.{Call, call_of}
use Rattle.call_rules.specs.Setup.{setup_of}
use Rattle.claim_rules.specs.Claim.{Step, Linked, steps_by}
use Rattle.claim_laws.proofs.Demand3.{demand_3}
use Rattle.row_rules.specs.Row.{RowAfter, state_of, row_setup, row_call}
use Rattle.row_rules.specs.RowClaim.{RowStep, RowLinked, RowClaims, as_after, step_of}
use Rattle.row_laws.proofs.RowLaws.{call_on_64_is_call_of, length_of_row_call, row_setup_ready}

-- calls on one row of 64 records are a list of calls on states
pub linked_of_row_linked : (before : RowAfter) (steps : List RowStep) → length before.row ≡ 64 → RowLinked before steps
    → Linked (as_after before) (map step_of steps)
unfolding RowLinked Linked
linked_of_row_linked before [] long linked = tt
linked_of_row_linked before (step ∷ steps) long linked = (
  ap as_after (linked.0 ∙ call_on_64_is_call_of (length before.row) before.control before.row before.order step.call long),
  linked_of_row_linked step.after steps (ap (λ (x : RowAfter). length x.row) linked.0 ∙ length_of_row_call before.control before.row
      before.order step.call ∙ long) linked.1,
)

-- .. and after an accepted setup on the row, one from what that setup leaves
pub row_list_is_call_list : (u : Setup) (row : List Superblock) (order : List ℕ) (start : RowAfter) → start ≡ row_setup u row order → start.outcome ≡ Ready
    → (steps : List RowStep) → RowLinked start steps → (as_after start ≡ setup_of u order) × Linked (as_after start) (map step_of steps)
row_list_is_call_list u row order start e ready steps linked =
    let h = row_setup_ready u row order (ap (λ (x : RowAfter). x.outcome) (sym e) ∙ ready) in
    (ap as_after e ∙ h.1, linked_of_row_linked start steps (ap (λ (x : RowAfter). length x.row) e ∙ h.2) linked)

-- For every accepted setup on a lent row, whatever stood in row and storage before, and every list of takes and frees on that row after it, plain and
-- named, and of drops.
pub row_demand_3 : (u : Setup) (row : List Superblock) (order : List ℕ) (start : RowAfter) → start ≡ row_setup u row order → start.outcome ≡ Ready
    → (steps : List RowStep) → RowLinked start steps → RowClaims u start [] (λ c. 0) steps
row_demand_3 u row order start e ready steps linked =
    let list = row_list_is_call_list u row order start e ready steps linked in demand_3 u order (as_after start) list.0 ready (map step_of steps) list.1

-- the calls of a list with what each left: any calls make such a list
unfoldable pub row_steps : RowAfter → List Call → List RowStep
row_steps before [] = []
row_steps before (call ∷ calls) =
    let after = row_call before.control before.row before.order call in
    record { call = call; after = after } ∷ row_steps after calls

pub row_steps_linked : (before : RowAfter) (calls : List Call) → RowLinked before (row_steps before calls)
unfolding row_steps RowLinked
row_steps_linked before [] = tt
row_steps_linked before (call ∷ calls) = (refl, row_steps_linked (row_call before.control before.row before.order call) calls)

-- on a row of 64 records they are the steps that the calls make on its state
pub row_steps_are_steps : (before : RowAfter) (calls : List Call) → length before.row ≡ 64
    → map step_of (row_steps before calls) ≡ steps_by call_of (as_after before) calls
unfolding row_steps steps_by
row_steps_are_steps before [] long = refl
row_steps_are_steps before (call ∷ calls) long =
    let after : RowAfter = row_call before.control before.row before.order call in
    let is : as_after after ≡ call_of (state_of before.control before.row) before.order call =
    ap as_after (call_on_64_is_call_of (length before.row) before.control before.row before.order call long) in
    ap (λ (l : List Step). step_of (record { call = call; after = after }) ∷ l)
    (row_steps_are_steps after calls (length_of_row_call before.control before.row before.order call ∙ long))
    ∙ ap (λ (x : After). let step : Step = record { call = call; after = x } in step ∷ steps_by call_of x calls) is
