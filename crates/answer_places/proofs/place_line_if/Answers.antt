-- The fields one after another, where the number changed. Assumes nothing.
use Rattle.std.proofs.Common.{ne_eqb}
use Rattle.text_writer.proofs.WriteLaws.{in_a_row}
use Rattle.answer_rules.specs.AnswerLines.{wide_decimal, place_line, place_line_if}
use Rattle.answer_places.proofs.place_line_if.Goals as goal

pub returns-else-old-new : goal.returns-else-old-new
unfolding wide_decimal place_line place_line_if
returns-else-old-new c = rw (ne_eqb c.args.old c.args.new c.if-old-new.false) (search in_a_row)
