-- `answer_totals::total_lines` meets its contract. The loop's invariant: the lines of the totals passed are put. Assumes nothing.
use Rattle.std.proofs.Common.{◌≡◌, length}
use Rattle.text_writer.specs.Written.{written}
use Rattle.answer_totals.proofs.TotalLinesLaws.{lines_of_totals}
use Rattle.answer_totals.proofs.total_lines.Given as goal

abbrev pub invariant-loop-x : goal.invariant-loop-x
invariant-loop-x l = l.text ≡ written l.fn.text (lines_of_totals l.fn.totals (length l.yielded))
