-- A further write keeps what the loop knows. Assumes nothing.
use Rattle.std.proofs.Common.{rules}
use Rattle.program_stream.proofs.StreamLaws.{appended_behind}
use Rattle.program_stream.proofs.write_whole.Goals as goal

pub loop-taken-preserved : goal.loop-taken-preserved
loop-taken-preserved g c = record {
  in_bytes = search rules;
  written = appended_behind _ _ _ _ _ _ c.loop-taken.invariant.written c.in_ok-put.ensures.bytes;
}
