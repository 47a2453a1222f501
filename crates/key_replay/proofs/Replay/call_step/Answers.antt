-- `key_replay::Replay::call_step` meets its contract. Assumes nothing.
use Rattle.key_replay.proofs.CommandStepLaws.{stepped_of_call}
use Rattle.key_replay.proofs.Replay.call_step.Goals as goal

pub returns : goal.returns
returns c =
    stepped_of_call _ c.requires.0 c.requires.1 _ _ _ c.requires.2 _ _
    c.call_state-a.ensures.order_after _
    c.call_line.ensures _ c.call_size.ensures.0 _ c.pass.ensures
