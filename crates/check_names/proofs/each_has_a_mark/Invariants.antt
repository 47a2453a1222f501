-- `check_names::each_has_a_mark` meets its contract. The loop's invariant: what the names left find in the marks left is what all names find in all
-- marks. Assumes nothing.
use Rattle.check_names.proofs.NameScanLaws.{Scanned}
use Rattle.check_names.proofs.each_has_a_mark.Given as goal

abbrev pub invariant-loop-name : goal.invariant-loop-name
invariant-loop-name l = Scanned l.initial.left l.fn.names l.left l.to_find l.name-index
