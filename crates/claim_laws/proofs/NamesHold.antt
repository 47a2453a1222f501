-- Document 02, item 2, over lists of calls: "A name holds from its take until its block is freed by either command, then may be used again", by the ledger
-- of the calls and their answers. Assumes nothing.
use mathlib.Core.Path.{◌≡◌, refl, sym, ap, ap₂, ◌∙◌, subst}
use mathlib.Core.Bool.{Bool, true, false}
use mathlib.Core.Logic.{inl, inr, ⊎_elim}
use mathlib.Core.List.{List, [], ◌∷◌}
use Prim.Native.Nat.{ℕ, ◌+◌, ◌≤◌, ◌<◌}
use native.Mathlib.Decide.{ℕ_discrete}
use native.Mathlib.Omega.{arith}
use borrow.Author.Tests.{eq-eqb, ne_eqb}
use lib.Dec.{T, eqb}
use Rattle.base_laws.specs.Sums.{both, one}
use Rattle.class_rules.specs.Classes.{class_count}
use Rattle.base_laws.proofs.Inequalities.{le_of_not_below}
use Rattle.base_laws.proofs.TestLaws.{T_of_true, true_of_T}
use Rattle.class_rules.proofs.ClassLaws.{class_of_le_27}
use Rattle.names_rules.specs.Names.{is_held}
use Rattle.names_laws.proofs.NameLaws.{held_facts, held_of_facts}
use Rattle.heap_rules.specs.declared.Setup.{Setup}
use Rattle.heap_rules.specs.declared.State.{State}
use Rattle.call_rules.specs.declared.Outcome.TheVariants.{Ready}
use Rattle.call_rules.specs.Answers.{After}
use Rattle.call_rules.specs.Setup.{setup_of}
use Rattle.call_rules.specs.Named.{held_address}
use Rattle.call_rules.specs.Calls.{Call, Take, Free, NamedTake, NamedFree, Drop, call_of}
use Rattle.call_laws.proofs.NamedRefusalConditions.{Held, named_take_refused_14, named_free_refused_15}
use Rattle.claim_rules.specs.Ledger.{Entry, class_of_entry, is_at, ledger_after, EachEntry, entries_at}
use Rattle.claim_rules.specs.Claim.{Step, Linked, peak_with}
use Rattle.claim_rules.specs.NamesClaim.{entries_named, NamesHold, NamesHoldOver, NameRefusals, NameRefusalsOver}
use Rattle.claim_laws.proofs.LedgerNames.{EntryAgrees, holds_address_of_not_held, name_is_at_address}
use Rattle.claim_laws.proofs.CallInvariantLaws.{ListInvariant, after_step}
use Rattle.claim_laws.proofs.Demand3.{list_invariant_after_setup}
use Rattle.claim_laws.proofs.AlongLaws.{along_of_list_invariant}
use Rattle.claim_laws.proofs.NamesAgree.{at_held_address}

-- ---- how often the ledger has a name
-- one that is not held it does not have
none_named_of_not_held : (s : State) (m : ℕ) → is_held s.names m ≡ false → (ledger : List Entry) → EachEntry (EntryAgrees s) ledger
    → entries_named m ledger ≡ 0
unfolding EachEntry entries_named
none_named_of_not_held s m free [] h = refl
none_named_of_not_held s m free (e ∷ ledger) h =
    ap₂ (λ (t : Bool) (n : ℕ). one t + n) (h.0.name_agrees m ∙ holds_address_of_not_held s m e.address free)
    (none_named_of_not_held s m free ledger h.1)

-- a held one it has as often as the held address in a class, where the address is in that class alone
named_as_often_as_at : (s : State) (m : ℕ) → T (is_held s.names m) → (c : ℕ) (ledger : List Entry) → EachEntry (EntryAgrees s) ledger
    → ((d : ℕ) → d ≤ class_count → (d ≡ c → ⊥) → entries_at ledger (held_address s m) d ≡ 0) → entries_named m ledger ≡ entries_at ledger (held_address s m) c
unfolding EachEntry entries_named entries_at
named_as_often_as_at s m held c [] h none = refl
named_as_often_as_at s m held c (e ∷ ledger) h none =
    ap₂ (λ (t : Bool) (n : ℕ). one t + n)
    (name_is_at_address s m e h.0 held ∙ of_class (ℕ_discrete e.address (held_address s m)) (ℕ_discrete (class_of_entry e) c))
    (named_as_often_as_at s m held c ledger h.1 (λ d l other. omega (arith, none d l other)))
  where
    of_class : Dec (e.address ≡ held_address s m) → Dec (class_of_entry e ≡ c)
        → is_at (held_address s m) e ≡ both (is_at (held_address s m) e) (eqb (class_of_entry e) c)
    of_class (no f) d = rw (ne_eqb e.address (held_address s m) f)
    of_class (yes q) (yes p) = rw (eq-eqb e.address (held_address s m) q, eq-eqb (class_of_entry e) c p)
    of_class (yes q) (no f) =
        let counted : one (both (is_at (held_address s m) e) (eqb (class_of_entry e) (class_of_entry e))) ≡ 1 =
        rw (eq-eqb e.address (held_address s m) q, eq-eqb (class_of_entry e) (class_of_entry e) refl) in
        absurd (let z : ⊥ = omega (arith, none (class_of_entry e) (class_of_le_27 e.size) f) in z)

module _ (u : Setup) (s : State) (order : List ℕ) (ledger : List Entry) (peak : ℕ → ℕ) (g : ListInvariant u s order ledger peak) where
  names_hold_of_list_invariant : NamesHold s ledger
  names_hold_of_list_invariant m = go (is_held s.names m) refl
    where
      go : (x : Bool) → is_held s.names m ≡ x → entries_named m ledger ≡ one x
      go true e =
          let held = T_of_true (is_held s.names m) e in
          let at = at_held_address u s order ledger peak g m held in
          named_as_often_as_at s m held at.class ledger g.names at.no_other ∙ at.once
      go false e = none_named_of_not_held s m e ledger g.names

  -- ---- the refusals of a named call
  named_of_held : (m : ℕ) → Held s m → 0 < entries_named m ledger
  named_of_held m h =
      let held = held_of_facts s.names m h.is_name_lem h.points in
      omega (arith, names_hold_of_list_invariant m ∙ ap one (true_of_T (is_held s.names m) held))

  held_of_named : (m : ℕ) → 0 < entries_named m ledger → Held s m
  held_of_named m some = go (is_held s.names m) refl
    where
      go : (x : Bool) → is_held s.names m ≡ x → Held s m
      go true e = let h = held_facts s.names m (T_of_true _ e) in record { is_name_lem = h.0; points = h.1 }
      go false e = absurd (let z : ⊥ = omega (arith, names_hold_of_list_invariant m ∙ ap one e) in z)

  in_setup : (i : ℕ) → i ≤ s.setup.processors → i ≤ u.processors
  in_setup i l = subst (λ (v : Setup). i ≤ v.processors) g.setup l

  in_state : (i : ℕ) → i ≤ u.processors → i ≤ s.setup.processors
  in_state i l = subst (λ (v : Setup). i ≤ v.processors) (sym g.setup) l

  name_refusals_of_list_invariant : (call : Call) → NameRefusals u ledger call (call_of s order call).answer.outcome
  unfolding NameRefusals call_of
  name_refusals_of_list_invariant (Take i size) = tt
  name_refusals_of_list_invariant (Free i a) = tt
  name_refusals_of_list_invariant (NamedTake i m size) = (
    λ e.
        let h = (named_take_refused_14 s order i m size).0 e in
        (h.processor.low, in_setup i h.processor.high, ⊎_elim (λ above. inl above) (λ held. inr (named_of_held m held)) h.taken),
    λ h.
        (named_take_refused_14 s order i m size).1 (record {
          passed = g.passed;
          processor = record { low = h.0; high = in_state i h.1 };
          taken = ⊎_elim (λ above. inl above) (λ some. inr (held_of_named m some)) h.2;
        }),
  )
  name_refusals_of_list_invariant (NamedFree i m) = (
    λ e.
        let h = (named_free_refused_15 s order i m g.shape).0 e in
        let none = le_of_not_below {a = 0} {b = entries_named m ledger} (λ some. h.not_held_lem (held_of_named m some)) in
        (h.processor.low, in_setup i h.processor.high, omega arith),
    λ h.
        (named_free_refused_15 s order i m g.shape).1 (record {
          passed = g.passed;
          processor = record { low = h.0; high = in_state i h.1 };
          not_held_lem = λ held. let z : ⊥ = omega (arith, named_of_held m held, h.2) in z;
        }),
  )
  name_refusals_of_list_invariant (Drop i addresses) = tt

name_refusals_from : (u : Setup) (before : After) (ledger : List Entry) (peak : ℕ → ℕ) (steps : List Step)
    → ListInvariant u before.answer.state before.order ledger peak → Linked before steps → NameRefusalsOver u ledger steps
unfolding Linked NameRefusalsOver
name_refusals_from u before ledger peak [] g linked = tt
name_refusals_from u before ledger peak (step ∷ steps) g linked =
    let new : List Entry = ledger_after ledger step.call step.after.answer.outcome in (
      subst (λ (x : After). NameRefusals u ledger step.call x.answer.outcome) (sym linked.0)
          (name_refusals_of_list_invariant u before.answer.state before.order ledger peak g step.call),
      name_refusals_from u step.after new (peak_with peak new) steps
          (after_step u before.answer.state before.order ledger peak g step linked.0).invariant linked.1,
    )

-- ---- along a list of calls
-- For every accepted setup, whatever stood in the storage before, and every list of takes and frees after it, plain and named, and of drops: before the list
-- and after each of its calls the state holds just the names of the ledger, which has each once ..
pub names_hold_over_list : (u : Setup) (order : List ℕ) (start : After) → start ≡ setup_of u order → start.answer.outcome ≡ Ready
    → (steps : List Step) → Linked start steps → NamesHoldOver start [] steps
names_hold_over_list u = along_of_list_invariant u NamesHold (names_hold_of_list_invariant u)

-- .. and each named take is refused 14, and each named free 15, exactly where the ledger says so
pub name_refusals_over_list : (u : Setup) (order : List ℕ) (start : After) → start ≡ setup_of u order → start.answer.outcome ≡ Ready
    → (steps : List Step) → Linked start steps → NameRefusalsOver u [] steps
name_refusals_over_list u order start e ready steps linked =
    name_refusals_from u start [] (λ c. 0) steps (list_invariant_after_setup u order start e ready) linked
