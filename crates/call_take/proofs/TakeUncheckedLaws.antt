-- A take behind the check, in the forms that the code's proofs ask. Assumes nothing.
use Rattle.std.proofs.Common.{Option, Some, None}
use mathlib.Core.Path.{◌≡◌, sym, ap, ◌∙◌}
use mathlib.Core.Bool.{Bool, true, false}
use mathlib.Core.List.{List}
use Prim.Native.Nat.{ℕ, ◌+◌, ◌*◌, ◌≤◌, ◌<◌}
use native.Mathlib.Omega.{arith}
use borrow.Author.Tests.{not-true, not-false}
use Rattle.base_laws.proofs.TestLaws.{T_of_true, true_of_equal}
use Rattle.class_rules.specs.Classes.{class_of, is_long, run_length}
use Rattle.class_rules.proofs.ClassLaws.{size_of_16_bits_not_too_large}
use Rattle.heap_rules.specs.declared.State.{State}
use Rattle.choice_rules.specs.Choice.{fullest}
use Rattle.choice_rules.specs.RunChoice.{lowest_run}
use Rattle.check_rules.specs.Check.{passes}
use Rattle.heap_laws.proofs.StateCheckLaws.{sound_of_passes, totals_kept_of_passes}
use Rattle.heap_laws.proofs.RunChoiceLaws.{lowest_run_is_free}
use Rattle.call_rules.specs.declared.Answer.{Answer}
use Rattle.call_rules.specs.declared.Outcome.TheVariants.{Address, Refused}
use Rattle.call_rules.specs.Answers.{After, HasNumberAndValuesOf, is_processor}
use Rattle.call_rules.specs.LongBlocks.{run_taken, long_taken_from, long_taken_at}
use Rattle.call_rules.specs.Take.{other_places, taken_at, take_unchecked}
use Rattle.call_take.proofs.OtherPlacesLaws.{fullest_lt_64, fullest_lt_256}
use Rattle.call_rules.proofs.AnswerLaws.{number_and_values_by_rules, refused_of_answer}

abbrev answer_and_order : Answer → List ℕ → After
answer_and_order r order = record { answer = r; order = order }

-- ---- the two clauses of the contract, from the equation
module _ (s : State) (order : List ℕ) (i n : ℕ) {r : Answer} {out : List ℕ} where
  pub take_unchecked_clauses : answer_and_order r out ≡ take_unchecked s order i n → (answer_and_order r out ≡ take_unchecked s order i n)
      × HasNumberAndValuesOf r.outcome (take_unchecked s order i n).answer.outcome
  take_unchecked_clauses e = (e, number_and_values_by_rules r out (take_unchecked s order i n) e)

-- ---- its ways out
module _ (s : State) (order : List ℕ) (i size : ℕ) (t : Bool) (p : t ≡ is_processor s i) where
  pub take_unchecked_refused_2 : (r : Answer) (number : ℕ) → t ≡ false → number ≡ 2 → r ≡ record { outcome = Refused number; state = s }
      → answer_and_order r order ≡ take_unchecked s order i size
  unfolding take_unchecked
  take_unchecked_refused_2 r number f g h = refused_of_answer s order number r h ∙ sym (rw (← p, f, g))

  -- a size of 16 bits is never refused 3
  module _ (small : size < 65536) (f : t ≡ true) (long : Bool) (q : long ≡ is_long size) where
    pub take_unchecked_is_long_taken : (after : After) → long ≡ true → after ≡ long_taken_at (run_length size) s order (lowest_run (run_length size) s)
        → after ≡ take_unchecked s order i size
    unfolding take_unchecked
    take_unchecked_is_long_taken after l h = h ∙ sym (rw (← p, f, size_of_16_bits_not_too_large size small, ← q, l))

    pub take_unchecked_is_taken_at : (after : After) (c : ℕ) → long ≡ false → c ≡ class_of size → after ≡ taken_at i c s order (fullest i c s)
        (other_places c s) → after ≡ take_unchecked s order i size
    unfolding take_unchecked
    take_unchecked_is_taken_at after c l e h = h ∙ sym (rw (← p, f, size_of_16_bits_not_too_large size small, ← q, l, ← e))

-- ---- a long size
-- what the check tells of the setup numbers
pub superblocks_in_table : (s : State) (order : List ℕ) → passes s order ≡ true → s.setup.superblocks ≤ 64
superblocks_in_table s order p = (sound_of_passes s order (T_of_true _ p)).numbers.superblocks_high

module _ (s : State) (size n : ℕ) (en : n ≡ run_length size) (found : Option ℕ) (ef : found ≡ lowest_run n s) where
  -- the run that is found lies in the table
  pub run_in_table : (k : ℕ) → found ≡ Some k → s.setup.superblocks ≤ 64 → k + n ≤ 64
  run_in_table k e l = omega (arith, (lowest_run_is_free n s k (sym ef ∙ e)).below)

  pub long_taken_of_run : (k : ℕ) (r : Answer) → found ≡ Some k → r ≡ record { outcome = Address (k * 4096); state = run_taken k n s } → (order : List ℕ)
      → answer_and_order r order ≡ long_taken_at (run_length size) s order (lowest_run (run_length size) s)
  unfolding long_taken_at long_taken_from
  long_taken_of_run k r e h order = ap (λ (x : Answer). answer_and_order x order) h ∙ sym (rw (← en, ← ef, e))

  pub long_taken_of_nothing : (r : Answer) (number : ℕ) → found ≡ None → number ≡ 17 → r ≡ record { outcome = Refused number; state = s }
      → (order : List ℕ) → answer_and_order r order ≡ long_taken_at (run_length size) s order (lowest_run (run_length size) s)
  unfolding long_taken_at
  long_taken_of_nothing r number e g h order = ap (λ (x : Answer). answer_and_order x order) h ∙ sym (rw (← en, ← ef, e, g))

-- what closes the goals of take_long
pub ruleset long_taken_rules = (run_in_table, long_taken_of_run, long_taken_of_nothing)

-- ---- how a proof finds which way out it is at
pub ruleset take_outcomes = (take_unchecked_refused_2, take_unchecked_is_taken_at, not-true, not-false)

-- what the calls of take require
pub ruleset take_requires = (T_of_true, true_of_equal, totals_kept_of_passes, superblocks_in_table, fullest_lt_64, fullest_lt_256)
