-- `program_stream::write_output` answers what the write did. Assumes nothing.
use Rattle.std.proofs.Common.{rules}
use Rattle.program_stream.proofs.write_output.Goals as goal

pub returns-then-is_err : goal.returns-then-is_err
returns-then-is_err c = search (c.write_whole-output.ensures.nothing, rules)

pub returns-else-is_err : goal.returns-else-is_err
returns-else-is_err c = search (c.write_whole-output.ensures.nothing, rules)
