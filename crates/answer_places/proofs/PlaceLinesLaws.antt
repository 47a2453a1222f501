-- The lines of changed places, put one after another. Assumes nothing.
use Rattle.std.proofs.Common.{ℕ, List, get_or}
use Rattle.text_writer.proofs.WriteLaws.{written_append}
use Rattle.answer_rules.specs.AnswerLines.{texts_below, place_line_if}
use Rattle.answer_rules.proofs.AnswerLineLaws.{texts_below_none, texts_below_more}

-- the lines of the places below i
abbrev pub lines_of_places : List ℕ → List ℕ → ℕ → List ℕ
lines_of_places before after i = texts_below (λ k. place_line_if k (get_or before k 0) (get_or after k 0)) i

pub ruleset each_place = (texts_below_none, texts_below_more, written_append)
