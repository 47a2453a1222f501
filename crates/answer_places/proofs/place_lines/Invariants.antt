-- `answer_places::place_lines` meets its contract. The loop's invariant: the lines of the places passed are put. Assumes nothing.
use Rattle.std.proofs.Common.{◌≡◌, length}
use Rattle.text_writer.specs.Written.{written}
use Rattle.answer_places.proofs.PlaceLinesLaws.{lines_of_places}
use Rattle.answer_places.proofs.place_lines.Given as goal

abbrev pub invariant-loop-i : goal.invariant-loop-i
invariant-loop-i l = l.text ≡ written l.fn.text (lines_of_places l.fn.before l.fn.after (length l.yielded))
