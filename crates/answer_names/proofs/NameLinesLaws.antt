-- The lines of names, put one after another. Assumes nothing.
use Rattle.std.proofs.Common.{◌≡◌, ℕ, List, ◌<◌, length, get_or}
use Rattle.std.proofs.lemmas.List.{get_or_default}
use Rattle.text_writer.proofs.WriteLaws.{written_append}
use Rattle.names_rules.specs.Names.{not_held, block_named}
use Rattle.answer_rules.specs.AnswerLines.{texts_below, name_line_if}
use Rattle.answer_rules.proofs.AnswerLineLaws.{texts_below_none, texts_below_more}

-- the lines of the names below m
abbrev pub lines_of_names : List ℕ → ℕ → List ℕ
lines_of_names names m = texts_below (λ i. name_line_if i (block_named names i)) m

-- read where the array has it
pub block_named_is_read : (names : List ℕ) (m : ℕ) → m < length names → block_named names m ≡ get_or names m 0
unfolding block_named
block_named_is_read names m h = get_or_default names m not_held 0 h

pub ruleset each_name = (texts_below_none, texts_below_more, written_append, block_named_is_read)
