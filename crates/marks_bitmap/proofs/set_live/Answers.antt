-- `marks_bitmap::set_live` meets its contract: the code's mask is a power of two, and past block 255 nothing is written. Assumes nothing.
use mathlib.Core.Path.{sym}
use Prim.Native.Nat.{◌%◌}
use native.Mathlib.Omega.{arith}
use Rattle.marks_rules.specs.Marks.{with_mark}
use Rattle.marks_laws.proofs.BitLaws.{shl_one}
use Rattle.marks_laws.proofs.MarkLaws.{with_mark_past_256}
use borrow.Author.Rules.{rules}
use Rattle.marks_bitmap.proofs.set_live.Goals as goal

pub returns-then-j-lt-MARK_COUNT : goal.returns-then-j-lt-MARK_COUNT
unfolding with_mark
returns-then-j-lt-MARK_COUNT c = rw (shl_one (c.args.j % 64) (omega arith))

pub returns-else-j-lt-MARK_COUNT : goal.returns-else-j-lt-MARK_COUNT
returns-else-j-lt-MARK_COUNT c =
    let a = c.args in
    sym (with_mark_past_256 a.live a.j (search rules) c.if-j-lt-MARK_COUNT.false)
