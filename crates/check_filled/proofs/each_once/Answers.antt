use mathlib.Core.Path.{◌≡◌}
use Prim.Native.Nat.{◌%◌, zero-le}
use native.Mathlib.Omega.{arith}
use borrow.Author.Rules.{rules}
use Rattle.base_laws.proofs.TestLaws.{T_of_true}
use Rattle.marks_rules.specs.Marks.{bit, mark_bit, with_mark}
use Rattle.marks_laws.proofs.BitLaws.{shl_one}
use Rattle.order_rules.specs.Order.{place}
use Rattle.filled_rules.proofs.SeenMarksLaws.{each_once_false_of_high_block, each_once_false_of_repeated_block, each_once_true_of_all_seen}
use Rattle.filled_rules.proofs.SeenMarksLaws.{seen_marks_start, seen_marks_step}
use Rattle.check_filled.proofs.each_once.Goals as goal

pub loop-p-init : goal.loop-p-init
loop-p-init c = let a = c.args in (zero-le, seen_marks_start a.order.now a.live a.s a.n (search rules))

pub returns-then-n-b : goal.returns-then-n-b
unfolding place
returns-then-n-b c =
    let a = c.args in
    each_once_false_of_high_block a.order.now a.live a.s a.n c.requires.0 (T_of_true _ c.requires.3) c.loop-p.p a.m c.requires.1
    c.loop-p-test.true c.if-n-b.true

pub returns-then-x-k-eq1 : goal.returns-then-x-k-eq1
unfolding place mark_bit bit
returns-then-x-k-eq1 c =
    let a = c.args in
    let l = c.loop-p in
    each_once_false_of_repeated_block a.order.now a.live a.s a.n c.requires.0 (T_of_true _ c.requires.3) l.seen l.p a.m c.requires.1
    l.invariant.1 c.loop-p-test.true c.if-n-b.false c.if-x-k-eq1.true

pub loop-p-preserved : goal.loop-p-preserved
unfolding place with_mark mark_bit bit
loop-p-preserved c =
    let a = c.args in
    let l = c.loop-p in
    let clear : mark_bit l.seen (place a.order.now a.s l.p) ≡ 0 = omega arith in (
      omega arith,
      rw (shl_one (place a.order.now a.s l.p % 64) (omega arith))
          (seen_marks_step a.order.now a.live a.s a.n l.seen l.p c.requires.0 l.invariant.1 c.if-n-b.false clear),
    )

pub returns : goal.returns
returns c =
    let a = c.args in
    let l = c.loop-p in
    each_once_true_of_all_seen a.order.now a.live a.s a.n c.requires.0 (T_of_true _ c.requires.3) l.seen l.p a.m c.requires.1 l.invariant.1
    (omega arith)
