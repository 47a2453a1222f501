-- An answer that is what the rules leave has what a contract says of it. Assumes nothing.
use mathlib.Core.Path.{◌≡◌, refl, sym, ap, subst}
use mathlib.Core.List.{List}
use Prim.Native.Nat.{ℕ, ◌≤◌}
use native.Mathlib.Omega.{arith}
use Rattle.heap_rules.specs.declared.State.{State}
use Rattle.call_rules.specs.declared.Answer.{Answer}
use Rattle.call_rules.specs.declared.Outcome.{Outcome}
use Rattle.call_rules.specs.declared.Outcome.TheVariants.{Address, Moves, Refused}
use Rattle.call_rules.specs.Answers.{After, HasNumberAndValuesOf, PassesIfAccepted, MovesAtMost, refused}

-- an outcome that is the rules' has their number and values
pub has_number_and_values_of_equal : (outcome rules : Outcome) → outcome ≡ rules → HasNumberAndValuesOf outcome rules
has_number_and_values_of_equal outcome rules e = subst (λ (x : Outcome). HasNumberAndValuesOf outcome x) e (record { number_is = refl; values_are = refl })

-- ---- the moves that an outcome reports: as many as it says, and none where it is an address or a refusal
module _ (most n : ℕ) (outcome : Outcome) where
  pub moves_at_most_of_moves : outcome ≡ Moves n → n ≤ most → MovesAtMost most outcome
  moves_at_most_of_moves e l m g = let same : n ≡ m = cc in omega arith

  pub moves_at_most_of_address : outcome ≡ Address n → MovesAtMost most outcome
  moves_at_most_of_address e m g = absurd (let z : ◌≡◌ {A = ℕ} 0 1 = cc in let no : ⊥ = omega arith in no)

  pub moves_at_most_of_refusal : outcome ≡ Refused n → MovesAtMost most outcome
  moves_at_most_of_refusal e m g = absurd (let z : ◌≡◌ {A = ℕ} 0 1 = cc in let no : ⊥ = omega arith in no)

-- ---- an answer and an order that are what the rules leave
module _ (r : Answer) (order : List ℕ) (rules : After) (e : ◌≡◌ {A = After} (record { answer = r; order = order }) rules) where
  -- have the rules' number and values
  pub number_and_values_by_rules : HasNumberAndValuesOf r.outcome rules.answer.outcome
  number_and_values_by_rules = has_number_and_values_of_equal r.outcome rules.answer.outcome (ap (λ (x : After). x.answer.outcome) e)

  -- and pass where the rules' do
  pub passes_if_accepted_by_rules : PassesIfAccepted rules.answer.outcome rules.answer.state rules.order
      → PassesIfAccepted r.outcome r.state order
  passes_if_accepted_by_rules = subst (λ (x : After). PassesIfAccepted x.answer.outcome x.answer.state x.order) (sym e)

  -- and report at most what the rules' may
  pub moves_at_most_by_rules : (most : ℕ) → MovesAtMost most rules.answer.outcome → MovesAtMost most r.outcome
  moves_at_most_by_rules most = subst (λ (x : After). MovesAtMost most x.answer.outcome) (sym e)

-- ---- a refusal's answer, with the order handed in, is what the rules leave
pub refused_of_answer : (s : State) (order : List ℕ) (number : ℕ) (r : Answer) → r ≡ record { outcome = Refused number; state = s }
    → ◌≡◌ {A = After} (record { answer = r; order = order }) (refused number s order)
refused_of_answer s order number r e = ap (λ (x : Answer). record { answer = x; order = order }) e
