-- `check_filled::each_once` meets its contract. The loop's invariant: the live marks and the blocks of the places passed are seen, all below n, each once.
-- The measure is the filled places left. Assumes nothing.
use Prim.Native.Nat.{◌-◌, ◌≤◌}
use Rattle.filled_rules.proofs.SeenMarksLaws.{SeenMarks}
use Rattle.check_filled.proofs.each_once.Given as goal

abbrev pub invariant-loop-p : goal.invariant-loop-p
invariant-loop-p l = (l.p ≤ l.m) × SeenMarks l.order l.initial.seen l.s l.n l.seen l.p

abbrev pub decreases-loop-p : goal.decreases-loop-p
decreases-loop-p l = l.m - l.p
