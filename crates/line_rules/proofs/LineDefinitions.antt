-- The definitions that a computed case of the key's lines unfolds, listed once: to unfold this name is to unfold all that its line names. Assumes nothing.
use Rattle.base_laws.specs.Sums.{sum_below}
use Rattle.marks_rules.specs.Marks.{live_count, mark_bit, bit}
use Rattle.text_rules.specs.Text.{decimal, digits}
use Rattle.heap_rules.specs.Table.{is_of_run, starts_run}
use Rattle.heap_rules.specs.Counts.{total, belongs, one_if_belongs, live_if_belongs, superblocks_of, live_of}
use Rattle.line_rules.specs.Lines.{setup_line, result, take_line, free_line, named_take_line, named_free_line, drop_line, call_line, stop_line, heap_line}
use Rattle.line_rules.specs.Lines.{heap_line_if, class_lines, heap_lines, run_line, run_line_if, run_lines, final_lines, closing_lines}

unfoldable pub line_definitions : Unit {0}
unfolding setup_line take_line free_line named_take_line named_free_line drop_line call_line result stop_line final_lines heap_lines class_lines heap_line_if
    heap_line
    run_lines run_line_if run_line closing_lines decimal digits
    is_of_run starts_run superblocks_of live_of total belongs one_if_belongs live_if_belongs live_count mark_bit bit sum_below
line_definitions = tt
