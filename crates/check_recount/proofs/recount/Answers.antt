-- `check_recount::recount` meets its contract. Assumes nothing.
use mathlib.Core.Path.{refl}
use native.Mathlib.Omega.{arith}
use borrow.Author.Rules.{rules}
use Rattle.check_recount.proofs.RecountLaws.{recounted_below_0, recounted_below_counted, recounted_below_not_counted}
use Rattle.check_recount.proofs.RecountLaws.{superblocks_fit_w8, live_fit_w16, recounted_below_64}
use Rattle.check_recount.proofs.recount.Goals as goal
use Rattle.check_recount.proofs.recount.Goals.{in-Some, in_default}

pub loop-b-init : goal.loop-b-init
loop-b-init c = recounted_below_0 c.args.table

pub overflow_add-superblocks : goal.overflow_add-superblocks
overflow_add-superblocks c = search superblocks_fit_w8

pub overflow_add-live : goal.overflow_add-live
overflow_add-live c = search live_fit_w16

pub loop-b-preserved : goal.loop-b-preserved
loop-b-preserved c =
    elim c.match-index_of.branch [
      | in-Some w ↦ rw (w.superblocks-is, w.live-is) (recounted_below_counted _ _ _ _ _ c.loop-b.invariant refl _ _ w.in-Some.ensures.value (search rules))
      | in_default w ↦ rw (w.superblocks-is, w.live-is) (recounted_below_not_counted _ _ _ _ _ c.loop-b.invariant refl w.in_default.ensures.value)
    ]

pub returns : goal.returns
returns c = recounted_below_64 c.args.table _ _ _ (omega arith) c.loop-b.invariant
