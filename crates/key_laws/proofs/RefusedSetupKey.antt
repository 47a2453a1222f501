-- A refused setup prints its stop line alone, at offset 0: refusal 1, and 12 where fewer order places are lent than it asks for. Assumes
-- nothing.
use mathlib.Core.Path.{◌≡◌, refl, ap, ◌∙◌}
use mathlib.Core.Bool.{true, false}
use mathlib.Core.List.{List, ◌∷◌}
use Prim.Native.Nat.{ℕ, ◌*◌, ◌<◌}
use lib.ListN.{length}
use Rattle.heap_rules.specs.declared.Setup.{Setup}
use Rattle.heap_rules.specs.States.{no_state}
use Rattle.check_rules.specs.Check.{within_limits}
use Rattle.call_rules.specs.declared.Outcome.TheVariants.{Refused}
use Rattle.call_rules.specs.Answers.{After, number_of, refused}
use Rattle.call_rules.specs.Setup.{setup_of}
use Rattle.call_laws.proofs.SetupLaws.{setup_refused_1_of_limits, setup_refused_12_of_storage}
use Rattle.record_rules.specs.declared.Command.{Command}
use Rattle.record_rules.specs.declared.Command.TheVariants as command
use Rattle.record_rules.specs.Record.{commands_of}
use Rattle.text_rules.specs.Text.{letters, digits, decimal}
use Rattle.line_rules.specs.Lines.{stop_line}
use Rattle.key_rules.specs.Key.{before_first, setup_text, text_of, key_of}

-- the text of a refused setup, whatever follows it
pub setup_text_of_refused_1 : (u : Setup) (rest : List ℕ) → setup_text u (Refused 1) rest ≡ letters "stopped 1 at 0\n"
unfolding setup_text number_of stop_line decimal digits
setup_text_of_refused_1 u rest = refl

pub setup_text_of_refused_12 : (u : Setup) (rest : List ℕ) → setup_text u (Refused 12) rest ≡ letters "stopped 12 at 0\n"
unfolding setup_text number_of stop_line decimal digits
setup_text_of_refused_12 u rest = refl

module _ (r order : List ℕ) (u : Setup) (commands : List Command) (e : commands_of r ≡ command.Setup u.processors u.superblocks u.spare u.p
    u.q ∷ commands) where
  key_is_setup_text : (after : After) → setup_of u order ≡ after → key_of r order ≡ setup_text u after.answer.outcome (text_of r after commands)
  unfolding key_of text_of
  key_is_setup_text after is = ap (text_of r (before_first order)) e ∙ ap (λ (z : After). setup_text u z.answer.outcome (text_of r z commands)) is

  pub key_of_setup_out_of_limits : within_limits u ≡ false → key_of r order ≡ letters "stopped 1 at 0\n"
  key_of_setup_out_of_limits n = let after = refused 1 no_state order in key_is_setup_text after (setup_refused_1_of_limits u order n)
      ∙ setup_text_of_refused_1 u (text_of r after commands)

  pub key_of_short_storage : within_limits u ≡ true → length order < u.superblocks * 256 → key_of r order ≡ letters "stopped 12 at 0\n"
  key_of_short_storage y few = let after = refused 12 no_state order in key_is_setup_text after (setup_refused_12_of_storage u order y few)
      ∙ setup_text_of_refused_12 u (text_of r after commands)
