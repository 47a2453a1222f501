-- `check_names::names_valid` meets its contract. Assumes nothing.
use Rattle.std.proofs.Common.{rules, arith, ◌∙◌}
use borrow.Author.Tests.{eq-eqb}
use Rattle.check_names.proofs.NameScanLaws.{count_start, count_step_held, count_step_not_held, count_end, names_valid_of_none_held}
use Rattle.check_names.proofs.NameScanLaws.{names_valid_is_each_has_a_mark}
use Rattle.check_names.proofs.names_valid.Goals as goal
use Rattle.check_names.proofs.names_valid.Goals.{then-name, else-name}

pub loop-name-init : goal.loop-name-init
loop-name-init c = (omega arith, count_start _)

pub loop-name-preserved : goal.loop-name-preserved
loop-name-preserved c = (
  elim c.if-name.branch [ then-name w ↦ omega arith | else-name w ↦ omega arith ],
  elim c.if-name.branch [ then-name w ↦ search (count_step_held, rules) | else-name w ↦ search (count_step_not_held, rules) ],
)

pub returns-then-held-eq0 : goal.returns-then-held-eq0
returns-then-held-eq0 c = eq-eqb c.loop-name.held 0 c.if-held-eq0.true ∙ search (names_valid_of_none_held, count_end, rules)

pub each_has_a_mark-requires : goal.each_has_a_mark-requires
each_has_a_mark-requires c = search (count_end, rules)

pub returns-else-held-eq0 : goal.returns-else-held-eq0
returns-else-held-eq0 c =
    search (names_valid_is_each_has_a_mark c.args.s c.marks_of_table.result _ c.marks_of_table.ensures c.each_has_a_mark.ensures, rules)
