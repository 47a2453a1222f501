-- `check_names::each_has_a_mark` meets its contract. Assumes nothing.
use Rattle.std.proofs.Common.{rules}
use Rattle.marks_rules.specs.Marks.{bit, mark_bit}
use Rattle.check_names.proofs.NameScanLaws.{scan_start, scan_false_of_no_mark, scan_false_of_no_block, to_find_of_held, scan_step_not_held, scan_step_held}
use Rattle.check_names.proofs.NameScanLaws.{scan_end_at_held, scan_end_of_names}
use Rattle.check_names.proofs.each_has_a_mark.Goals as goal
use Rattle.check_names.proofs.each_has_a_mark.Goals.{then-name+else-x-ge-NUMBER_COUNT+else-m-b-eq0+else-to_find-eq0, else-name}

pub loop-name-init : goal.loop-name-init
loop-name-init c = search (scan_start, rules)

pub returns-then-x-ge-NUMBER_COUNT : goal.returns-then-x-ge-NUMBER_COUNT
returns-then-x-ge-NUMBER_COUNT c = search (scan_false_of_no_block, rules)

pub returns-then-m-b-eq0 : goal.returns-then-m-b-eq0
unfolding mark_bit bit
returns-then-m-b-eq0 c = search (scan_false_of_no_mark, rules)

pub overflow_sub-to_find : goal.overflow_sub-to_find
overflow_sub-to_find c = search (to_find_of_held, rules)

pub loop-name-preserved : goal.loop-name-preserved
unfolding mark_bit bit
loop-name-preserved c =
    elim c.if-name.branch [
      | then-name+else-x-ge-NUMBER_COUNT+else-m-b-eq0+else-to_find-eq0 w ↦ search (scan_step_held, rules)
      | else-name w ↦ search (scan_step_not_held, rules)
    ]

pub returns-then-to_find-eq0 : goal.returns-then-to_find-eq0
unfolding mark_bit bit
returns-then-to_find-eq0 c = search (scan_end_at_held, rules)

pub returns-after-loop-name : goal.returns-after-loop-name
returns-after-loop-name c = search (scan_end_of_names, rules)
