-- Texts put one after another, as a loop puts them: none yet, and one more. Assumes nothing.
use Rattle.std.proofs.Common.{◌≡◌, ℕ, List, [], ◌+◌, ◌++◌, refl, add-one}
use Rattle.answer_rules.specs.AnswerLines.{texts_below}
-- the computed cases come first: a wrong definition fails there
use Rattle.answer_rules.proofs.AnswerCases as cases

module _ (text : ℕ → List ℕ) where
  pub texts_below_none : texts_below text 0 ≡ []
  unfolding texts_below
  texts_below_none = refl

  pub texts_below_more : (k : ℕ) → texts_below text (k + 1) ≡ texts_below text k ++ text k
  unfolding texts_below
  texts_below_more k = rw add-one
