-- The lines of totals, put one after another. Assumes nothing.
use Rattle.std.proofs.Common.{ℕ, List, get_or}
use Rattle.text_writer.proofs.WriteLaws.{written_append}
use Rattle.heap_rules.specs.declared.Totals.{Totals}
use Rattle.answer_rules.specs.AnswerLines.{texts_below, total_line_if}
use Rattle.answer_rules.proofs.AnswerLineLaws.{texts_below_none, texts_below_more}

-- the lines of the totals below x
abbrev pub lines_of_totals : Totals → ℕ → List ℕ
lines_of_totals t x = texts_below (λ i. total_line_if i (get_or t.superblocks i 0) (get_or t.live i 0)) x

pub ruleset each_total = (texts_below_none, texts_below_more, written_append)
