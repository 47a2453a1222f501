-- `program_stream::read_input` answers what the read did. Assumes nothing.
use Rattle.program_stream.proofs.read_input.Goals as goal

pub returns-then-is_err : goal.returns-then-is_err
returns-then-is_err c = c.read_whole-input.ensures.within_buffer

pub returns-else-is_err : goal.returns-else-is_err
returns-else-is_err c = c.read_whole-input.ensures.within_buffer
