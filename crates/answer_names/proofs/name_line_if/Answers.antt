-- The fields one after another, where the name is held. Assumes nothing.
use Rattle.std.proofs.Common.{ne_eqb}
use Rattle.text_writer.proofs.WriteLaws.{in_a_row}
use Rattle.names_rules.specs.Names.{not_held}
use Rattle.answer_rules.specs.AnswerLines.{name_line, name_line_if}
use Rattle.answer_names.proofs.name_line_if.Goals as goal

pub returns-else-number-eq-NOT_HELD : goal.returns-else-number-eq-NOT_HELD
unfolding name_line_if name_line
returns-else-number-eq-NOT_HELD c = rw (ne_eqb c.args.number not_held c.if-number-eq-NOT_HELD.false) (search in_a_row)
