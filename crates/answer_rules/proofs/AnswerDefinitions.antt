-- The definitions that a computed case of a printed answer unfolds, listed once: to unfold this name is to unfold all that its line names.
-- Assumes nothing.
use Rattle.base_laws.specs.Sums.{sum_below}
use Rattle.marks_rules.specs.Marks.{live_count, mark_bit, bit}
use Rattle.text_rules.specs.Text.{decimal, digits}
use Rattle.names_rules.specs.Names.{block_named}
use Rattle.heap_rules.specs.Table.{is_unused}
use Rattle.line_rules.specs.Lines.{setup_line}
use Rattle.answer_rules.specs.AnswerLines.{wide_decimal, texts_below, outcome_line, is_as_new, marks_fields, superblock_line, superblock_line_if}
use Rattle.answer_rules.specs.AnswerLines.{superblock_lines, name_line, name_line_if, name_lines, total_line, total_line_if, total_lines, place_line}
use Rattle.answer_rules.specs.AnswerLines.{place_line_if, place_lines, answer_text, bad_input_text}

unfoldable pub answer_definitions : Unit {0}
unfolding wide_decimal texts_below outcome_line is_as_new marks_fields superblock_line superblock_line_if superblock_lines name_line name_line_if name_lines
    total_line
    total_line_if total_lines place_line place_line_if place_lines answer_text bad_input_text
    setup_line decimal digits block_named is_unused live_count mark_bit bit sum_below
answer_definitions = tt
