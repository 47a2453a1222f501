-- A further read keeps what the loop knows. Assumes nothing.
use Rattle.std.proofs.Common.{rules}
use Rattle.program_stream.proofs.StreamLaws.{consumed_behind}
use Rattle.program_stream.proofs.read_whole.Goals as goal

pub loop-done-preserved : goal.loop-done-preserved
loop-done-preserved g c = record {
  in_buffer = search rules;
  same_length = search rules;
  next = consumed_behind _ _ _ _ _ _ _ c.loop-done.invariant.in_buffer c.in_ok-got.ensures.bound.0 c.loop-done.invariant.next c.in_ok-got.ensures.bytes.0;
}
