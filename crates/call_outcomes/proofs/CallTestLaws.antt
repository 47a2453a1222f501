-- A call behind its test, by the number of what the test refuses it for. Assumes nothing.
use mathlib.Core.Path.{◌≡◌, ◌∙◌}
use mathlib.Core.List.{List}
use Prim.Native.Nat.{ℕ, ◌<◌}
use native.Mathlib.Omega.{arith}
use lib.Dec.{eqb}
use borrow.Author.Tests.{ne_eqb}
use Rattle.base_laws.specs.Sums.{pick}
use Rattle.refusal_rules.specs.declared.Refusal.{Refusal}
use Rattle.refusal_rules.specs.declared.Refusal.TheVariants as kind
use Rattle.refusal_rules.specs.RefusalNumbers.{number_of}
use Rattle.heap_rules.specs.declared.State.{State}
use Rattle.call_rules.specs.declared.Answer.{Answer}
use Rattle.call_rules.specs.declared.Outcome.TheVariants.{Refused}
use Rattle.call_rules.specs.Answers.{After, HasNumberAndValuesOf, refused}
use Rattle.call_rules.proofs.AnswerLaws.{number_and_values_by_rules, refused_of_answer}

-- no refusal has the number 0, which stands for none
pub refusal_number_positive : (refusal : Refusal) → 0 < number_of refusal
refusal_number_positive kind.SetupOutOfLimits = omega arith
refusal_number_positive kind.NoSuchProcessor = omega arith
refusal_number_positive kind.SizeTooLarge = omega arith
refusal_number_positive kind.NoSuperblock = omega arith
refusal_number_positive kind.AddressUnmapped = omega arith
refusal_number_positive kind.AddressMisaligned = omega arith
refusal_number_positive kind.BlockNotLive = omega arith
refusal_number_positive kind.UnknownCommand = omega arith
refusal_number_positive kind.CommandTruncated = omega arith
refusal_number_positive kind.CommandMisplaced = omega arith
refusal_number_positive kind.RecordTooLong = omega arith
refusal_number_positive kind.StorageTooSmall = omega arith
refusal_number_positive kind.StateInvalid = omega arith
refusal_number_positive kind.NameUnavailable = omega arith
refusal_number_positive kind.NameNotHeld = omega arith
refusal_number_positive kind.DropEmpty = omega arith
refusal_number_positive kind.NoRun = omega arith

-- what a call leaves by its refusal's number: where that is 0, what follows
abbrev pub tested : ℕ → State → List ℕ → After → After
tested number s order next = pick (eqb number 0) next (refused number s order)

module _ (number : ℕ) (s : State) (order : List ℕ) (next : After) where
  pub refused_by_test : (refusal : Refusal) (n : ℕ) (r : Answer) → number_of refusal ≡ number → n ≡ number_of refusal
      → r ≡ record { outcome = Refused n; state = s } → record { answer = r; order = order } ≡ tested number s order next
  refused_by_test refusal n r e same h =
      refused_of_answer s order n r h ∙ rw (same, ← e, ne_eqb (number_of refusal) 0 (λ z. omega (arith, refusal_number_positive refusal)))

  pub passed_by_test : (after : After) → 0 ≡ number → after ≡ next → after ≡ tested number s order next
  passed_by_test after z e = rw (← z) e

-- ---- the two clauses of a call's contract, from the equation
pub call_clauses : (rules : After) {r : Answer} {order : List ℕ} → record { answer = r; order = order } ≡ rules
    → (◌≡◌ {A = After} (record { answer = r; order = order }) rules) × HasNumberAndValuesOf r.outcome rules.answer.outcome
call_clauses rules {r = r} {order = order} e = (e, number_and_values_by_rules r order rules e)
