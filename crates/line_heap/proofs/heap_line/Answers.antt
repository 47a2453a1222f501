-- `line_heap::heap_line` meets its contract: the fields one after another. Assumes nothing.
use Rattle.text_writer.proofs.WriteLaws.{in_a_row}
use Rattle.line_rules.specs.Lines.{heap_line}
use Rattle.line_heap.proofs.heap_line.Goals as goal

pub returns : goal.returns
unfolding heap_line
returns c = search in_a_row
