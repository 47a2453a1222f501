-- The ways out of a call on a table by value, in the forms that its proofs ask. Assumes nothing.
use mathlib.Core.Path.{◌≡◌, refl, sym, ap, ◌∙◌}
use mathlib.Core.Bool.{Bool, true, false}
use mathlib.Core.List.{List}
use Prim.Native.Nat.{ℕ, ◌*◌}
use native.Mathlib.Omega.{arith}
use lib.ListN.{length}
use lib.Dec.{eqb, leb}
use borrow.Author.Tests.{ne_eqb}
use Rattle.base_laws.specs.Sums.{pick}
use Rattle.refusal_rules.specs.declared.Refusal.{Refusal}
use Rattle.refusal_rules.specs.declared.Refusal.TheVariants.{SetupOutOfLimits, StateInvalid}
use Rattle.refusal_rules.specs.RefusalNumbers as refusals
use Rattle.heap_rules.specs.declared.Superblock.{Superblock}
use Rattle.heap_rules.specs.declared.Setup.{Setup}
use Rattle.heap_rules.specs.States.{no_state}
use Rattle.check_rules.specs.Check.{within_limits}
use Rattle.call_rules.specs.declared.Answer.{Answer}
use Rattle.call_rules.specs.Answers.{refused, number_of, HasNumberAndValuesOf, PassesIfAccepted}
use Rattle.call_rules.proofs.AnswerLaws.{has_number_and_values_of_equal}
use Rattle.call_rules.specs.Setup.{accepted_setup, setup_of}
use Rattle.call_rules.specs.Calls.{Call, call_of}
use Rattle.check_limits.specs.SetupRefusal.{setup_refusal}
use Rattle.call_outcomes.proofs.CallTestLaws.{refusal_number_positive}
use Rattle.row_rules.specs.declared.Control.{Control}
use Rattle.row_rules.specs.Row.{RowAfter, state_of, control_of, as_row_after, row_refused, row_accepted_setup, setup_on, call_on}
use Rattle.row_by_value.specs.declared.RowFault.{RowFault}
use Rattle.row_by_value.specs.declared.TableCall.{TableCall}
use Rattle.row_by_value.specs.RowRefusal.{row_first_refusal, refusal_of_row_fault, number_of_row_fault}
use Rattle.row_by_value.specs.Tables.{row_after_call, refused_call, answered_call}
use Rattle.row_by_value.proofs.RowRefusalLaws.{number_of_refusal_of_row_fault}

-- ---- what a call on a row leaves by its refusal's number: where that is 0, what follows
abbrev row_tested : ℕ → Control → List Superblock → List ℕ → RowAfter → RowAfter
row_tested number control table order next = pick (eqb number 0) next (row_refused number control table order)

setup_on_by_test : (n : ℕ) (u : Setup) (table : List Superblock) (order : List ℕ)
    → row_tested (row_first_refusal 1 n order u) (control_of no_state) table order (as_row_after (setup_of u order)) ≡ setup_on n u table order
unfolding setup_on row_first_refusal setup_refusal setup_of
setup_on_by_test n u table order = go (within_limits u) (leb (u.superblocks * 256) (length order)) (eqb n 64)
  where
    go : (a b c : Bool)
        → row_tested (pick (eqb (pick a (pick b 0 12) 1) 0) (pick c 0 13) (pick a (pick b 0 12) 1)) (control_of no_state) table order
        (as_row_after (pick a (pick b (accepted_setup u order) (refused 12 no_state order)) (refused 1 no_state order)))
        ≡ pick a (pick b (pick c (row_accepted_setup u order) (row_refused 13 (control_of no_state) table order))
        (row_refused 12 (control_of no_state) table order)) (row_refused 1 (control_of no_state) table order)
    go true true true = refl
    go true true false = refl
    go true false c = refl
    go false b c = refl

call_on_by_test : (n : ℕ) (control : Control) (table : List Superblock) (order : List ℕ) (call : Call)
    → row_tested (row_first_refusal 13 n order control.setup) control table order (as_row_after (call_of (state_of control table) order call))
    ≡ call_on n control table order call
unfolding call_on row_first_refusal setup_refusal
call_on_by_test n control table order call =
    go (within_limits control.setup) (leb (control.setup.superblocks * 256) (length order)) (eqb n 64)
    (as_row_after (call_of (state_of control table) order call))
  where
    go : (a b c : Bool) (next : RowAfter)
        → row_tested (pick (eqb (pick a (pick b 0 12) 13) 0) (pick c 0 13) (pick a (pick b 0 12) 13)) control table order next
        ≡ pick a (pick b (pick c next (row_refused 13 control table order)) (row_refused 12 control table order)) (row_refused 13 control table order)
    go true true true next = refl
    go true true false next = refl
    go true false c next = refl
    go false b c next = refl

-- ---- refused
module _ (control : Control) (table : List Superblock) (order : List ℕ) (refusal : Refusal) (n : ℕ) (e : n ≡ refusals.number_of refusal) (r : TableCall)
    (h : r ≡ refused_call n control table) where
  not_0 : n ≡ 0 → ⊥
  not_0 z = omega (arith, refusal_number_positive refusal)

  refused_by_test : (number : ℕ) (next : RowAfter) → refusals.number_of refusal ≡ number → row_after_call r order ≡ row_tested number control table order next
  refused_by_test number next g = rw (h, ← g, ← e, ne_eqb n 0 not_0)

  -- "An accepted call yields a state that passes": no refusal has the number 0
  pub refused_call_passes_if_accepted : PassesIfAccepted r.answer.outcome (state_of r.answer.control r.table) order
  unfolding number_of
  refused_call_passes_if_accepted z = absurd (not_0 (sym (ap (λ (x : TableCall). number_of x.answer.outcome) h) ∙ z))

  module _ (rows : ℕ) (fault : RowFault) where
    pub refused_setup_is_setup_on : (u : Setup) → number_of_row_fault 1 fault ≡ row_first_refusal 1 rows order u
        → refusal ≡ refusal_of_row_fault SetupOutOfLimits fault → control ≡ control_of no_state → row_after_call r order ≡ setup_on rows u table order
    refused_setup_is_setup_on u f g none =
        refused_by_test _ (as_row_after (setup_of u order)) (ap refusals.number_of g ∙ number_of_refusal_of_row_fault SetupOutOfLimits fault ∙ f)
        ∙ ap (λ (x : Control). row_tested (row_first_refusal 1 rows order u) x table order (as_row_after (setup_of u order))) none
        ∙ setup_on_by_test rows u table order

    pub refused_call_is_call_on : (call : Call) → number_of_row_fault 13 fault ≡ row_first_refusal 13 rows order control.setup
        → refusal ≡ refusal_of_row_fault StateInvalid fault → row_after_call r order ≡ call_on rows control table order call
    refused_call_is_call_on call f g =
        refused_by_test _ (as_row_after (call_of (state_of control table) order call))
        (ap refusals.number_of g ∙ number_of_refusal_of_row_fault StateInvalid fault ∙ f)
        ∙ call_on_by_test rows control table order call

-- ---- answered by the engine
module _ (rows : ℕ) (table : List Superblock) (order : List ℕ) (a : Answer) (after : List ℕ) (r : TableCall) (h : r ≡ answered_call a) where
  pub answered_setup_is_setup_on : (u : Setup) → 0 ≡ row_first_refusal 1 rows order u → record { answer = a; order = after } ≡ setup_of u order
      → row_after_call r after ≡ setup_on rows u table order
  answered_setup_is_setup_on u z g =
      ap (λ (x : TableCall). row_after_call x after) h ∙ ap as_row_after g
      ∙ ap (λ (x : ℕ). row_tested x (control_of no_state) table order (as_row_after (setup_of u order))) z ∙ setup_on_by_test rows u table order

  pub answered_call_is_call_on : (control : Control) (call : Call) → 0 ≡ row_first_refusal 13 rows order control.setup
      → record { answer = a; order = after } ≡ call_of (state_of control table) order call → row_after_call r after ≡ call_on rows control table order call
  answered_call_is_call_on control call z g =
      ap (λ (x : TableCall). row_after_call x after) h ∙ ap as_row_after g
      ∙ ap (λ (x : ℕ). row_tested x control table order (as_row_after (call_of (state_of control table) order call))) z
      ∙ call_on_by_test rows control table order call

-- ---- the clause on number and values, from the equation
pub number_and_values_of_row_after : (r : TableCall) (order : List ℕ) (rules : RowAfter) → row_after_call r order ≡ rules
    → HasNumberAndValuesOf r.answer.outcome rules.outcome
number_and_values_of_row_after r order rules e = has_number_and_values_of_equal r.answer.outcome rules.outcome (ap (λ (x : RowAfter). x.outcome) e)
