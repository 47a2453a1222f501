-- What calls left, as values of computed cases: with no order places, as none of them is looked at. Assumes nothing.
use mathlib.Core.List.{[]}
use Rattle.heap_rules.specs.declared.State.{State}
use Rattle.call_rules.specs.declared.Outcome.{Outcome}
use Rattle.call_rules.specs.Answers.{After}
use Rattle.call_rules.specs.Calls.{Call}
use Rattle.claim_rules.specs.Claim.{Step}

abbrev pub after_with : Outcome → State → After
after_with outcome s = record { answer = record { outcome = outcome; state = s }; order = [] }

abbrev pub step_with : Call → Outcome → State → Step
step_with call outcome s = record { call = call; after = after_with outcome s }
