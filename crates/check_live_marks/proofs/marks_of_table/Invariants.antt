-- `check_live_marks::marks_of_table` meets its contract. The loop's invariant: the numbers of the superblocks passed are copied. Assumes nothing.
use Prim.Native.Nat.{◌*◌}
use Rattle.check_live_marks.proofs.MarksOfTableLaws.{NumbersBelow}
use Rattle.check_live_marks.proofs.marks_of_table.Given as goal

abbrev pub invariant-loop-k : goal.invariant-loop-k
invariant-loop-k l = NumbersBelow l.fn.s.table (4 * l.k) l.marks
