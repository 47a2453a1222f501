-- Demand 3. Assumes nothing.
use mathlib.Core.Path.{◌≡◌, refl, sym, ap, ◌∙◌, subst}
use mathlib.Core.List.{List, [], ◌∷◌}
use Prim.Native.Nat.{ℕ, ◌-◌, ◌*◌, ◌≤◌}
use native.Mathlib.Nat.{mul-zero, lt_of_not-le}
use native.Mathlib.Decide.{dec_le}
use native.Mathlib.Omega.{arith}
use lib.ListN.{length}
use lib.Dec.{T}
use Rattle.base_laws.proofs.TestLaws.{true_of_T}
use Rattle.class_rules.specs.Classes.{class_count, blocks_of}
use Rattle.order_rules.specs.Order.{cleared}
use Rattle.order_laws.proofs.OrderLaws.{length_cleared}
use Rattle.heap_rules.specs.declared.Setup.{Setup}
use Rattle.heap_rules.specs.States.{new_state}
use Rattle.check_rules.specs.Check.{within_limits}
use Rattle.heap_rules.specs.Counts.{superblocks_of_class}
use Rattle.call_rules.specs.declared.Outcome.TheVariants.{Ready, Refused}
use Rattle.call_rules.specs.Answers.{After}
use Rattle.call_rules.specs.Setup.{setup_of}
use Rattle.claim_rules.specs.Ledger.{Entry, ledger_after}
use Rattle.claim_rules.specs.Claim.{Step, Linked, Bounded, Claims, peak_with}
use Rattle.call_laws.proofs.SetupLaws.{accepted_setup_of_ready, setup_refused_12_of_storage}
use Rattle.heap_laws.proofs.StateCheckLaws.{new_state_names_valid}
use Rattle.heap_laws.proofs.RankLaws.{new_state_ranks_sound}
use Rattle.heap_laws.proofs.TotalsLaws.{new_state_totals_kept}
use Rattle.heap_laws.proofs.RunLaws.{runs_valid_of_sound, new_state_runs_sound}
use Rattle.heap_laws.proofs.CountLaws.{owned_of_new_state, live_of_class_of_new_state}
use Rattle.claim_laws.proofs.LedgerLaws.{entries_at_empty, entries_of_empty}
use Rattle.claim_laws.proofs.LongAtLaws.{long_at_of_new_state}
use Rattle.claim_laws.proofs.LiveAtLaws.{live_at_of_new_state}
use Rattle.claim_laws.proofs.LedgerNames.{EntryAgrees, each_entry_empty}
use Rattle.claim_laws.proofs.LiveBlocksListedLaws.{Listed}
use Rattle.claim_laws.proofs.CallInvariantLaws.{ListInvariant, AfterCall, after_step}

-- ---- after the setup
ledger_of_new_state : (u : Setup) → Listed (new_state u) []
ledger_of_new_state u =
    record {
      blocks = λ a c l. entries_at_empty a c ∙ sym (live_at_of_new_state u a c);
      counted = λ c l. entries_of_empty c ∙ sym (live_of_class_of_new_state u c);
      runs = λ a. entries_at_empty a class_count ∙ sym (long_at_of_new_state u a);
    }

bound_of_new_state : (u : Setup) → Bounded u (new_state u) (λ c. 0)
unfolding Bounded
bound_of_new_state u c l =
    let none : (u.q - u.p) * blocks_of c * superblocks_of_class c (new_state u) ≡ 0 =
    ap (λ (x : ℕ). (u.q - u.p) * blocks_of c * x) (owned_of_new_state u c) ∙ mul-zero ((u.q - u.p) * blocks_of c) in
    omega arith

-- an accepted setup has its places lent
storage_of_ready_setup : (u : Setup) (order : List ℕ) → T (within_limits u) → (setup_of u order).answer.outcome ≡ Ready → u.superblocks * 256 ≤ length order
storage_of_ready_setup u order numbers ready = go (dec_le (u.superblocks * 256) (length order))
  where
    never : (r : ℕ) → Refused r ≡ Ready → ⊥
    never r e = let z : ◌≡◌ {A = ℕ} 0 1 = cc in omega arith

    go : Dec (u.superblocks * 256 ≤ length order) → u.superblocks * 256 ≤ length order
    go (yes h) = h
    go (no f) = absurd (never 12
        (sym (ap (λ (x : After). x.answer.outcome) (setup_refused_12_of_storage u order (true_of_T (within_limits u) numbers) (lt_of_not-le f))) ∙ ready))

pub list_invariant_after_setup : (u : Setup) (order : List ℕ) (start : After) → start ≡ setup_of u order → start.answer.outcome ≡ Ready
    → ListInvariant u start.answer.state start.order [] (λ c. 0)
list_invariant_after_setup u order start e started =
    let ready : (setup_of u order).answer.outcome ≡ Ready = ap (λ (x : After). x.answer.outcome) (sym e) ∙ started in
    let h = accepted_setup_of_ready u order ready in
    let room : u.superblocks * 256 ≤ length (cleared order (u.superblocks * 256)) =
    subst (λ (n : ℕ). u.superblocks * 256 ≤ n) (sym (length_cleared order (u.superblocks * 256))) (storage_of_ready_setup u order h.0 ready) in
    subst (λ (x : After). ListInvariant u x.answer.state x.order [] (λ c. 0)) (sym (e ∙ h.1))
    (record {
      passed = record {
        sound = h.2;
        names = new_state_names_valid u;
        totals = new_state_totals_kept u;
        ranks = new_state_ranks_sound u;
        runs = runs_valid_of_sound (new_state u) h.3.length_is (new_state_runs_sound u);
        room = room;
      };
      shape = h.3;
      setup = refl;
      listed = ledger_of_new_state u;
      names = each_entry_empty (EntryAgrees (new_state u));
      bounded = bound_of_new_state u;
    })

-- ---- after each call
claims_of_list_invariant : (u : Setup) (before : After) (ledger : List Entry) (peak : ℕ → ℕ) (steps : List Step)
    → ListInvariant u before.answer.state before.order ledger peak → Linked before steps → Claims u before ledger peak steps
unfolding Linked Claims
claims_of_list_invariant u before ledger peak [] g linked = g.bounded
claims_of_list_invariant u before ledger peak (step ∷ steps) g linked = (
  g.bounded,
  n.owner_changes,
  claims_of_list_invariant u step.after (ledger_after ledger step.call step.after.answer.outcome)
      (peak_with peak (ledger_after ledger step.call step.after.answer.outcome)) steps n.invariant linked.1,
)
  where
    n : AfterCall u before.answer.state ledger peak step.call step.after
    n = after_step u before.answer.state before.order ledger peak g step linked.0

-- For every accepted setup, whatever stood in the storage before, and every list of takes and frees after it, plain and named, and of drops.
pub demand_3 : (u : Setup) (order : List ℕ) (start : After) → start ≡ setup_of u order → start.answer.outcome ≡ Ready
    → (steps : List Step) → Linked start steps → Claims u start [] (λ c. 0) steps
demand_3 u order start e ready steps linked =
    claims_of_list_invariant u start [] (λ c. 0) steps (list_invariant_after_setup u order start e ready) linked
