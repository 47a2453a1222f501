-- `text_writer::Text::put_byte` meets its contract: there is such a place, or not. Assumes nothing.
use Rattle.std.proofs.Common.{arith}
use Rattle.text_writer.proofs.WriteLaws.{written_byte, written_no_byte}
use Rattle.text_writer.proofs.Text.put_byte.Goals as goal

pub returns-then-self : goal.returns-then-self
returns-then-self c = written_byte c.args.self.now c.args.byte (omega arith)

pub returns-else-self : goal.returns-else-self
returns-else-self c = written_no_byte c.args.self.now c.args.byte (omega arith)
