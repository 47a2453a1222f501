-- The key of a record with an accepted setup, and the storage that making it leaves, by the calls behind the check, which is in the way of none of them.
-- Nearly all that a computed case of a record costs is the check, so that such cases go by this. Assumes nothing.
use mathlib.Core.Path.{◌≡◌, ap, ◌∙◌}
use mathlib.Core.List.{List, ◌∷◌, ◌++◌}
use Prim.Native.Nat.{ℕ}
use Rattle.heap_rules.specs.declared.Setup.{Setup}
use Rattle.call_rules.specs.declared.Outcome.TheVariants.{Ready}
use Rattle.call_rules.specs.Setup.{setup_of}
use Rattle.call_rules.specs.Calls.{call_with, call_unchecked}
use Rattle.call_rules.proofs.CallDefinitions.{call_definitions}
use Rattle.claim_rules.specs.Claim.{Step, last_after, steps_by}
use Rattle.claim_laws.proofs.CallListLaws.{steps_are_unchecked}
use Rattle.record_rules.specs.declared.Command.{Command}
use Rattle.record_rules.specs.declared.Command.TheVariants as command
use Rattle.record_rules.specs.Record.{commands_of}
use Rattle.record_rules.proofs.CommandDefinitions.{command_definitions}
use Rattle.line_rules.specs.Lines.{setup_line}
use Rattle.line_rules.proofs.LineDefinitions.{line_definitions}
use Rattle.key_rules.specs.Key.{key_of, storage_of}
use Rattle.key_laws.proofs.KeyClaims.{key_claims_of_accepted_setup}
use Rattle.key_rules.specs.KeyClaim.{calls_in, steps_in, line_of, step_lines, ending_lines}

module _ (r order : List ℕ) (u : Setup) (commands : List Command) where
  -- the calls of the record, each behind the check
  abbrev pub steps_behind_check : List Step
  steps_behind_check = steps_by call_unchecked (setup_of u order) (calls_in r commands)

  abbrev pub text_by : List Step → List ℕ
  text_by steps = setup_line u ++ (step_lines steps ++ ending_lines (last_after (setup_of u order) steps) commands)

  module _ (e : commands_of r ≡ command.Setup u.processors u.superblocks u.spare u.p u.q ∷ commands)
      (ready : (setup_of u order).answer.outcome ≡ Ready) where
    pub key_past_check : key_of r order ≡ text_by steps_behind_check
    unfolding steps_in
    key_past_check = (key_claims_of_accepted_setup r order u commands e ready).printed ∙ ap text_by (steps_are_unchecked u order ready (calls_in r commands))

    pub storage_past_check : storage_of r order ≡ (last_after (setup_of u order) steps_behind_check).order
    unfolding steps_in
    storage_past_check =
        (key_claims_of_accepted_setup r order u commands e ready).storage
        ∙ ap (λ (steps : List Step). (last_after (setup_of u order) steps).order) (steps_are_unchecked u order ready (calls_in r commands))

-- what a computed case of these unfolds
unfoldable pub past_check_definitions : Unit {0}
unfolding calls_in call_with steps_by step_lines line_of last_after ending_lines command_definitions line_definitions call_definitions
past_check_definitions = tt
