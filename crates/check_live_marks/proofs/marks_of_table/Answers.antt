-- `check_live_marks::marks_of_table` meets its contract. Assumes nothing.
use Rattle.std.proofs.Common.{arith, refl, ◌≤◌}
use Rattle.base_laws.proofs.ReplacedElement.{length_of_length_map}
use Rattle.check_live_marks.proofs.MarksOfTableLaws.{numbers_none, numbers_of_superblock, marks_are_live_blocks}
use Rattle.check_live_marks.proofs.marks_of_table.Goals as goal

pub loop-k-init : goal.loop-k-init
loop-k-init c = numbers_none _ _ _ refl refl

pub loop-k-preserved : goal.loop-k-preserved
loop-k-preserved c = numbers_of_superblock c.args.s.table _ _ _ (omega arith) c.live_blocks.ensures c.loop-k.invariant

pub returns : goal.returns
returns c = let h : 64 ≤ c.loop-k.k = omega arith in search (length_of_length_map, marks_are_live_blocks)
