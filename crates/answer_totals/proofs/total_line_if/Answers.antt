-- The fields one after another, where one of the totals is not 0. Assumes nothing.
use Rattle.std.proofs.Common.{◌≡◌, false, eqb, arith}
use Rattle.base_laws.specs.Sums.{both}
use Rattle.text_writer.proofs.WriteLaws.{in_a_row}
use Rattle.answer_rules.specs.AnswerLines.{total_line, total_line_if}
use Rattle.answer_totals.proofs.total_line_if.Goals as goal

pub returns-else-superblocks-eq0 : goal.returns-else-superblocks-eq0
unfolding total_line_if total_line
returns-else-superblocks-eq0 c =
    let other : both (eqb c.args.superblocks 0) (eqb c.args.live 0) ≡ false = grind arith in
    rw other (search in_a_row)
