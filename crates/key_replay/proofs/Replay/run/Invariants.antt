-- What stands and is still to come stays the same. Assumes nothing.
use mathlib.Core.Path.{◌≡◌}
use Rattle.key_replay.specs.Steps.{InBounds, lent_ahead, commands_left}
use Rattle.key_replay.proofs.Replay.run.Given as goal

abbrev pub invariant-loop-self : goal.invariant-loop-self
invariant-loop-self l = InBounds l.self × (lent_ahead l.self ≡ lent_ahead l.fn.self)

abbrev pub decreases-loop-self : goal.decreases-loop-self
decreases-loop-self l = commands_left l.self
