-- `line_final::heap_lines` meets its contract. The loop's invariant: the lines of the heaps passed are put. Assumes nothing.
use Rattle.std.proofs.Common.{◌≡◌}
use Rattle.text_writer.specs.Written.{written}
use Rattle.line_rules.specs.Lines.{heap_lines}
use Rattle.line_final.proofs.heap_lines.Given as goal

abbrev pub invariant-loop-heap : goal.invariant-loop-heap
invariant-loop-heap l = l.text ≡ written l.fn.text (heap_lines l.heap l.s)
