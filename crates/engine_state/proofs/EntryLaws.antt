-- The entries' ways out, in the forms that their proofs ask. Assumes nothing.
use mathlib.Core.Path.{◌≡◌, refl, sym, ap, ◌∙◌}
use mathlib.Core.Bool.{Bool, true, false}
use mathlib.Core.List.{List}
use Prim.Native.Nat.{ℕ, ◌*◌}
use native.Mathlib.Omega.{arith}
use lib.ListN.{length}
use lib.Dec.{leb}
use Rattle.base_laws.specs.Sums.{pick, both}
use Rattle.order_rules.specs.Order.{cleared}
use Rattle.heap_rules.specs.declared.Setup.{Setup}
use Rattle.heap_rules.specs.declared.State.{State}
use Rattle.heap_rules.specs.States.{no_state, new_state}
use Rattle.check_rules.specs.Check.{within_limits, rest_valid, passes}
use Rattle.heap_laws.proofs.StateFacts.{Shape}
use Rattle.call_rules.specs.declared.Answer.{Answer}
use Rattle.call_rules.specs.declared.Outcome.TheVariants.{Ready, Refused}
use Rattle.call_header.specs.declared.CallHeader.{CallHeader}
use Rattle.call_header.specs.declared.CallHeader.TheVariants as header
use Rattle.call_rules.specs.Answers.{After, HasNumberAndValuesOf, PassesIfAccepted, MovesAtMost, refused, checked}
use Rattle.call_rules.specs.Setup.{accepted_setup, setup_of}
use Rattle.call_rules.specs.Take.{take_unchecked}
use Rattle.call_rules.specs.Free.{free_unchecked}
use Rattle.call_rules.specs.Named.{named_take_unchecked, named_free_unchecked}
use Rattle.call_rules.specs.Drop.{drop_unchecked}
use Rattle.call_rules.specs.Calls.{Call, call_with, most_moves, call_of, call_unchecked}
use Rattle.call_rules.proofs.AnswerLaws.{number_and_values_by_rules, passes_if_accepted_by_rules, moves_at_most_by_rules}
use Rattle.call_rules.proofs.CheckFirst.{call_of_checks_first}
use Rattle.call_laws.proofs.AcceptedCallLaws.{call_passes_if_accepted, call_moves_at_most, setup_passes_if_accepted}
use Rattle.check_limits.specs.declared.SetupFault.{SetupFault}
use Rattle.check_limits.specs.SetupRefusal.{setup_refusal, refusal_of_fault, number_of_fault}
use Rattle.check_limits.proofs.SetupFaultLaws.{number_of_refusal_of_fault}
use Rattle.check_state.specs.FirstRefusal.{first_refusal}
use Rattle.call_outcomes.proofs.CallTestLaws.{tested, refused_by_test, passed_by_test}
use Rattle.refusal_rules.specs.declared.Refusal.{Refusal}
use Rattle.refusal_rules.specs.declared.Refusal.TheVariants as kind
use Rattle.refusal_rules.specs.RefusalNumbers.{number_of}

-- ---- the clauses of an entry's contract, from the equation
module _ {r : Answer} {new : List ℕ} where
  pub call_state_clauses : (s : State) (order : List ℕ) (call : Call) → Shape s → record { answer = r; order = new } ≡ call_of s order call
      → (◌≡◌ {A = After} (record { answer = r; order = new }) (call_of s order call))
      × HasNumberAndValuesOf r.outcome (call_of s order call).answer.outcome
      × PassesIfAccepted r.outcome r.state new
      × MovesAtMost (most_moves s.setup.q call) r.outcome
  call_state_clauses s order call shape e = (
    e,
    number_and_values_by_rules r new (call_of s order call) e,
    passes_if_accepted_by_rules r new (call_of s order call) e (call_passes_if_accepted s order call shape),
    moves_at_most_by_rules r new (call_of s order call) e (most_moves s.setup.q call) (call_moves_at_most s order call shape),
  )

  pub setup_clauses : (u : Setup) (order : List ℕ) → record { answer = r; order = new } ≡ setup_of u order
      → (◌≡◌ {A = After} (record { answer = r; order = new }) (setup_of u order))
      × HasNumberAndValuesOf r.outcome (setup_of u order).answer.outcome
      × PassesIfAccepted r.outcome r.state new
  setup_clauses u order e = (
    e,
    number_and_values_by_rules r new (setup_of u order) e,
    passes_if_accepted_by_rules r new (setup_of u order) e (setup_passes_if_accepted u order),
  )

-- ---- a setup
setup_by_test : (u : Setup) (order : List ℕ) → tested (setup_refusal 1 u order) no_state order (accepted_setup u order) ≡ setup_of u order
unfolding setup_refusal setup_of
setup_by_test u order = go (within_limits u) (leb (u.superblocks * 256) (length order)) (accepted_setup u order)
  where
    go : (a b : Bool) (next : After) → tested (pick a (pick b 0 12) 1) no_state order next
        ≡ pick a (pick b next (refused 12 no_state order)) (refused 1 no_state order)
    go true true next = refl
    go true false next = refl
    go false b next = refl

module _ (u : Setup) (order : List ℕ) (st : State) where
  pub setup_refused : (fault : SetupFault) (refusal : Refusal) (n : ℕ) (r : Answer) → number_of_fault 1 fault ≡ setup_refusal 1 u order
      → refusal ≡ refusal_of_fault kind.SetupOutOfLimits fault → n ≡ number_of refusal → st ≡ no_state
      → r ≡ record { outcome = Refused n; state = st } → record { answer = r; order = order } ≡ setup_of u order
  setup_refused fault refusal n r e same number none h =
      refused_by_test (setup_refusal 1 u order) no_state order (accepted_setup u order) refusal n r
      (ap number_of same ∙ number_of_refusal_of_fault kind.SetupOutOfLimits fault ∙ e) number (h ∙ rw none)
      ∙ setup_by_test u order

  pub setup_ready : (new : List ℕ) → 0 ≡ setup_refusal 1 u order → new ≡ cleared order (u.superblocks * 256) → st ≡ new_state u
      → record { answer = record { outcome = Ready; state = st }; order = new } ≡ setup_of u order
  setup_ready new z g h = passed_by_test (setup_refusal 1 u order) no_state order (accepted_setup u order) _ z (rw (g, h)) ∙ setup_by_test u order

-- ---- a call: refused by the check, or what it is behind it
checked_by_test : (s : State) (order : List ℕ) (next : After) → tested (first_refusal s order) s order next ≡ checked s order next
unfolding first_refusal checked
checked_by_test s order next = go (within_limits s.setup) (leb (s.setup.superblocks * 256) (length order)) (rest_valid s order)
  where
    go : (a b c : Bool) → tested (pick a (pick b (pick c 0 13) 12) 13) s order next
        ≡ pick a (pick b (pick c next (refused 13 s order)) (refused 12 s order)) (refused 13 s order)
    go true true true = refl
    go true true false = refl
    go true false c = refl
    go false b c = refl

module _ (s : State) (order : List ℕ) (call : Call) where
  call_by_test : tested (first_refusal s order) s order (call_unchecked s order call) ≡ call_of s order call
  call_by_test = checked_by_test s order (call_unchecked s order call) ∙ sym (call_of_checks_first s order call)

  pub call_refused_by_check : (refusal : Refusal) (n : ℕ) (r : Answer) → number_of refusal ≡ first_refusal s order → n ≡ number_of refusal
      → r ≡ record { outcome = Refused n; state = s } → record { answer = r; order = order } ≡ call_of s order call
  call_refused_by_check refusal n r e same h = refused_by_test _ s order _ refusal n r e same h ∙ call_by_test

  pub call_is_call_unchecked : (after : After) → 0 ≡ first_refusal s order → after ≡ call_unchecked s order call → after ≡ call_of s order call
  call_is_call_unchecked after z h = passed_by_test _ s order _ after z h ∙ call_by_test

-- one that the check lets pass has a state that passes, as the calls behind the check ask
pub passes_of_no_refusal : (s : State) (order : List ℕ) → 0 ≡ first_refusal s order → passes s order ≡ true
unfolding first_refusal passes
passes_of_no_refusal s order = go (within_limits s.setup) (leb (s.setup.superblocks * 256) (length order)) (rest_valid s order)
  where
    go : (a b c : Bool) → ◌≡◌ {A = ℕ} 0 (pick a (pick b (pick c 0 13) 12) 13) → both a c ≡ true
    go true true true q = refl
    go true true false q = absurd (omega arith)
    go true false c q = absurd (omega arith)
    go false b c q = absurd (omega arith)

-- and there, what each call answers
module _ (s : State) (order : List ℕ) (c : CallHeader) (addresses : List ℕ) (after : After) (i : ℕ) where
  pub unchecked_take : (size : ℕ) → c ≡ header.Take i size → after ≡ take_unchecked s order i size → after ≡ call_unchecked s order (call_with c addresses)
  unfolding call_unchecked call_with
  unchecked_take size e h = rw e h

  pub unchecked_free : (a : ℕ) → c ≡ header.Free i a → after ≡ free_unchecked s order i a → after ≡ call_unchecked s order (call_with c addresses)
  unfolding call_unchecked call_with
  unchecked_free a e h = rw e h

  pub unchecked_named_take : (m size : ℕ) → c ≡ header.NamedTake i m size → after ≡ named_take_unchecked s order i m size
      → after ≡ call_unchecked s order (call_with c addresses)
  unfolding call_unchecked call_with
  unchecked_named_take m size e h = rw e h

  pub unchecked_named_free : (m : ℕ) → c ≡ header.NamedFree i m → after ≡ named_free_unchecked s order i m
      → after ≡ call_unchecked s order (call_with c addresses)
  unfolding call_unchecked call_with
  unchecked_named_free m e h = rw e h

  pub unchecked_drop : c ≡ header.Drop i → after ≡ drop_unchecked s order i addresses → after ≡ call_unchecked s order (call_with c addresses)
  unfolding call_unchecked call_with
  unchecked_drop e h = rw e h

-- how a proof finds the call
pub ruleset unchecked_calls = (unchecked_take, unchecked_free, unchecked_named_take, unchecked_named_free, unchecked_drop)
