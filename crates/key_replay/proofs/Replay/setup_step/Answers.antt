-- `key_replay::Replay::setup_step` meets its contract. Assumes nothing.
use Rattle.key_replay.proofs.CommandStepLaws.{stepped_of_setup, stepped_of_refused_setup}
use Rattle.key_replay.proofs.Replay.setup_step.Goals as goal

pub returns-then-number-ne0 : goal.returns-then-number-ne0
returns-then-number-ne0 c = search stepped_of_refused_setup

pub returns : goal.returns
returns c = search (
  stepped_of_setup,
  c.setup_line.ensures,
  c.number_of-number.ensures,
  c.setup-a.ensures,
  c.requires,
)
