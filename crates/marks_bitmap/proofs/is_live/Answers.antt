-- `marks_bitmap::is_live` meets its contract: the code's shift and remainder are the definition of a mark. Assumes nothing.
use mathlib.Core.Path.{◌≡◌}
use Prim.Native.Nat.{◌/◌}
use borrow.Author.Rules.{rules}
use lib.ListN.{get_or}
use Rattle.marks_rules.specs.Marks.{bit, mark_bit, is_marked}
use Rattle.marks_bitmap.proofs.is_live.Goals as goal

pub returns : goal.returns
unfolding is_marked mark_bit bit
returns c =
    let a = c.args in
    let e : c.unwrap_or-word.result ≡ get_or a.live (a.j / 64) 0 = search rules in
    rw e
