use Rattle.call_drop.proofs.TouchedArrayLaws.{none_told, class_in_array, told_past_run, told_at_next, told_at_end}
use Rattle.call_drop.proofs.touched_pairs.Goals as goal
use Rattle.call_drop.proofs.touched_pairs.Goals.{then-b-lt-HEAPS, else-b-lt-HEAPS}

pub loop-address-init : goal.loop-address-init
loop-address-init c = none_told _ _

pub bounds-touched-b-then-b-lt-HEAPS : goal.bounds-touched-b-then-b-lt-HEAPS
bounds-touched-b-then-b-lt-HEAPS c =
    let e = c.superblock_index.ensures in
    rw e (class_in_array _ _ _ c.requires c.loop-address-test.true (rw e at c.if-b-lt-HEAPS.true))

pub loop-address-preserved : goal.loop-address-preserved
loop-address-preserved c =
    let e = c.superblock_index.ensures in
    elim c.if-b-lt-HEAPS.branch [
      | then-b-lt-HEAPS w ↦
          rw (w.touched-is, e)
          (told_at_next _ _ _ c.requires c.loop-address-test.true _ c.loop-address.invariant (rw e at w.if-b-lt-HEAPS.true))
      | else-b-lt-HEAPS w ↦
          rw w.touched-is (told_past_run _ _ _ c.requires c.loop-address-test.true _ c.loop-address.invariant (rw e at w.if-b-lt-HEAPS.false))
    ]

pub returns : goal.returns
returns c = told_at_end _ _ _ _ c.loop-address.invariant c.loop-address-test.false
