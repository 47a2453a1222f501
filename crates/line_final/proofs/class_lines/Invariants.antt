-- `line_final::class_lines` meets its contract. The loop's invariant: the lines of the classes passed are put. Assumes nothing.
use Rattle.std.proofs.Common.{◌≡◌}
use Rattle.text_writer.specs.Written.{written}
use Rattle.line_rules.specs.Lines.{class_lines}
use Rattle.line_final.proofs.class_lines.Given as goal

abbrev pub invariant-loop-class : goal.invariant-loop-class
invariant-loop-class l = l.text ≡ written l.fn.text (class_lines l.heap l.class l.s)
