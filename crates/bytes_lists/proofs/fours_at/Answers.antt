use Prim.Native.Nat.{◌*◌, ◌<◌}
use native.Mathlib.Omega.{arith}
use borrow.Author.Count.{below_more}
use borrow.Author.Rules.{rules}
use lib.ListN.{length}
use lib.Seq.{get_or-set_same, get_or-set_other}
use Rattle.std.proofs.Common.{◌≢◌}
use Rattle.bytes_rules.proofs.PastEndLaws.{four_at_position_after}
use Rattle.bytes_lists.proofs.FoursReadLaws.{fours_read, zeros_behind_fours}
use Rattle.bytes_lists.proofs.fours_at.Goals as goal

pub loop-i-preserved : goal.loop-i-preserved
loop-i-preserved c =
    let l = c.loop-i in
    below_more _ _
    (λ k h. let ne : k ≢ l.i = omega arith in rw get_or-set_other (l.invariant k h))
    (
    let inside : l.i < length l.number-items = omega arith in
    rw get_or-set_same (four_at_position_after c.args.bytes.now c.args.at (4 * l.i) _ _ c.position_after.ensures.0 c.four_at.ensures)
    )

pub returns : goal.returns
returns c = (search (rules, fours_read), search (rules, zeros_behind_fours))
