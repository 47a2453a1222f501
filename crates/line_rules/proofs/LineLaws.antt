-- What a line prints, in the page's words. Assumes nothing.
use mathlib.Core.Path.{◌≡◌, refl}
use mathlib.Core.List.{◌++◌}
use Prim.Native.Nat.{ℕ}
use Rattle.text_rules.specs.Text.{letters}
use Rattle.call_rules.specs.declared.Outcome.{Outcome}
use Rattle.line_rules.specs.Lines.{field, result, take_line}
use Rattle.line_rules.proofs.LineDefinitions.{line_definitions}

-- size 0 "prints as 0" (document 02, item 1), whatever the processor and the outcome
pub size_0_prints_as_0 : (processor : ℕ) (outcome : Outcome) → take_line processor 0 outcome ≡ field (letters "take ") processor ++ letters " 0"
    ++ result outcome ++ letters "\n"
unfolding line_definitions
size_0_prints_as_0 processor outcome = refl
