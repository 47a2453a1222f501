-- `answer_names::name_lines` meets its contract. The loop's invariant: the lines of the names passed are put. Assumes nothing.
use Rattle.std.proofs.Common.{◌≡◌}
use Rattle.text_writer.specs.Written.{written}
use Rattle.answer_names.proofs.NameLinesLaws.{lines_of_names}
use Rattle.answer_names.proofs.name_lines.Given as goal

abbrev pub invariant-loop-m : goal.invariant-loop-m
invariant-loop-m l = l.text ≡ written l.fn.text (lines_of_names l.fn.names l.m)
