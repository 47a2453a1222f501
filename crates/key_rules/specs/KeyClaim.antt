-- The calls of a record that its key replays are a list as in demand 3: what is claimed of them and of the key.
use Rattle.std.specs.Prelude.{◌≡◌, List, [], ◌∷◌, ◌++◌, ℕ, length}
use Rattle.heap_rules.specs.declared.Setup.{Setup}
use Rattle.call_rules.specs.declared.Outcome.{Outcome}
use Rattle.call_rules.specs.declared.Outcome.TheVariants.{Ready}
use Rattle.call_rules.specs.Answers.{After}
use Rattle.call_rules.specs.Setup.{setup_of}
use Rattle.call_rules.specs.Calls as call
use Rattle.call_rules.specs.Calls.{Call, call_with, call_of}
use Rattle.claim_rules.specs.Claim.{Step, Linked, steps_by, last_after, Claims}
use Rattle.record_rules.specs.declared.Command.{Command}
use Rattle.record_rules.specs.declared.Command.TheVariants as command
use Rattle.record_rules.specs.Record.{addresses_in, commands_of}
use Rattle.line_rules.specs.Lines.{setup_line, take_line, free_line, named_take_line, named_free_line, drop_line, stop_line, final_lines}
use Rattle.key_rules.specs.Key.{key_of, storage_of}

-- ---- the calls of a record
-- the takes, frees and drops among commands of record r, up to their end or stop; a setup among them is passed over
unfoldable pub calls_in : List ℕ → List Command → List Call
calls_in r [] = []
calls_in r (command.Setup processors superblocks spare p q ∷ commands) = calls_in r commands
calls_in r (command.Call call count first ∷ commands) = call_with call (addresses_in r first count) ∷ calls_in r commands
calls_in r (command.Refused number offset ∷ commands) = []

-- those calls with what each left, one after the other
unfoldable pub steps_in : List ℕ → After → List Command → List Step
steps_in r before commands = steps_by call_of before (calls_in r commands)

-- ---- what is printed of them
unfoldable pub line_of : Call → Outcome → List ℕ
line_of (call.Take processor size) outcome = take_line processor size outcome
line_of (call.Free processor address) outcome = free_line processor address outcome
line_of (call.NamedTake processor name size) outcome = named_take_line processor name size outcome
line_of (call.NamedFree processor name) outcome = named_free_line processor name outcome
line_of (call.Drop processor addresses) outcome = drop_line processor (length addresses) outcome

unfoldable pub step_lines : List Step → List ℕ
step_lines [] = []
step_lines (step ∷ steps) = line_of step.call step.after.answer.outcome ++ step_lines steps

-- the stop line, or the final lines of the last state
unfoldable pub ending_lines : After → List Command → List ℕ
ending_lines last [] = final_lines last.answer.state
ending_lines last (command.Setup processors superblocks spare p q ∷ commands) = ending_lines last commands
ending_lines last (command.Call call count first ∷ commands) = ending_lines last commands
ending_lines last (command.Refused number offset ∷ commands) = stop_line number offset

-- ---- the claim
-- a record that starts with the accepted setup u: the calls after it are a list as in demand 3 from what the setup left, the claim
-- holds of it, and the key prints the setup, these calls with their outcomes, and the stop line or the last state
pub record KeyClaims (r order : List ℕ) (u : Setup) (commands : List Command) : Type 0 where
  pub starts : commands_of r ≡ command.Setup u.processors u.superblocks u.spare u.p u.q ∷ commands
  pub ready : (setup_of u order).answer.outcome ≡ Ready
  pub linked : Linked (setup_of u order) (steps_in r (setup_of u order) commands)
  pub claims : Claims u (setup_of u order) [] (λ c. 0) (steps_in r (setup_of u order) commands)
  pub printed : key_of r order
      ≡ setup_line u
      ++ (step_lines (steps_in r (setup_of u order) commands)
      ++ ending_lines (last_after (setup_of u order) (steps_in r (setup_of u order) commands)) commands)
  pub storage : storage_of r order ≡ (last_after (setup_of u order) (steps_in r (setup_of u order) commands)).order
