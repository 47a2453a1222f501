-- Document 02, item 3, over lists of calls: "Every operation keeps them equal to the recount", and the live totals agree with the ledger of the calls and
-- their answers. Assumes nothing.
use mathlib.Core.Path.{◌≡◌, sym, ◌∙◌, subst}
use mathlib.Core.List.{List, []}
use Prim.Native.Nat.{ℕ, suc, ◌+◌}
use Rattle.base_laws.specs.Sums.{sum_below}
use Rattle.heap_rules.specs.declared.Setup.{Setup}
use Rattle.heap_rules.specs.declared.State.{State}
use Rattle.heap_rules.specs.Totals.{live_kept, TotalsKept, TotalsCounted}
use Rattle.call_rules.specs.declared.Outcome.TheVariants.{Ready}
use Rattle.call_rules.specs.Answers.{After}
use Rattle.call_rules.specs.Setup.{setup_of}
use Rattle.call_laws.proofs.TotalsKeptLaws.{totals_counted_of_kept, call_keeps_totals, new_or_refused_setup_totals_kept, live_totals_are_live_of_class}
use Rattle.claim_rules.specs.Ledger.{Entry, entries_of}
use Rattle.claim_rules.specs.Claim.{Step, Linked}
use Rattle.claim_rules.specs.TotalsClaim.{TotalsCountedOver, LiveTotalsAgree, LiveTotalsAgreeOver}
use Rattle.claim_laws.proofs.CallInvariantLaws.{ListInvariant}
use Rattle.claim_laws.proofs.AlongLaws.{along_of_kept, along_of_list_invariant}

-- For every setup, accepted or refused, whatever stood in the storage before, and every list of takes and frees after it, plain and named, and of drops.
pub totals_kept_over_list : (u : Setup) (order : List ℕ) (start : After) → start ≡ setup_of u order → (steps : List Step) → Linked start steps
    → TotalsCountedOver start steps
totals_kept_over_list u order start e steps linked =
    along_of_kept (λ s order ledger. TotalsKept s) (λ s ledger. TotalsCounted s)
    (λ s order ledger kept. totals_counted_of_kept s kept) (λ s order ledger call kept. call_keeps_totals s order call kept)
    start [] steps (subst (λ (x : After). TotalsKept x.answer.state) (sym e) (new_or_refused_setup_totals_kept u order)) linked

-- from the calls and their answers alone
live_totals_agree_of_list_invariant : (u : Setup) (s : State) (order : List ℕ) (ledger : List Entry) (peak : ℕ → ℕ) → ListInvariant u s order ledger peak
    → LiveTotalsAgree u s ledger
live_totals_agree_of_list_invariant u s order ledger peak g c l =
    subst (λ (v : Setup). live_kept 0 c s + sum_below (λ i. live_kept (suc i) c s) v.processors ≡ entries_of c ledger) g.setup
    (live_totals_are_live_of_class s order g.passed c l ∙ sym (g.listed.counted c l))

-- For every accepted setup, whatever stood in the storage before, and every list of takes and frees after it, plain and named, and of drops.
pub live_totals_agree_with_ledger : (u : Setup) (order : List ℕ) (start : After) → start ≡ setup_of u order → start.answer.outcome ≡ Ready
    → (steps : List Step) → Linked start steps
    → LiveTotalsAgreeOver u start [] steps
live_totals_agree_with_ledger u = along_of_list_invariant u (LiveTotalsAgree u) (live_totals_agree_of_list_invariant u)
