use mathlib.Core.Path.{◌≡◌, sym, ◌∙◌}
use mathlib.Core.Bool.{false}
use Prim.Native.Nat.{◌≤◌, ◌<◌}
use native.Mathlib.Omega.{arith}
use Rattle.marks_rules.specs.Marks.{bit, mark_bit}
use Rattle.heap_rules.specs.Table.{superblock_at}
use Rattle.check_rules.specs.Check.{is_unowned}
use Rattle.check_ranks.proofs.RankScanLaws.{rank_of, not_unowned_of_owner, none_met, ranked_le, step_unranked, false_of_met_twice}
use Rattle.check_ranks.proofs.RankScanLaws.{false_of_unowned, step_higher, step_not_higher, ranks_valid_of_highest}
use Rattle.check_ranks.proofs.ranks_valid.Goals as goal
use Rattle.check_ranks.proofs.ranks_valid.Goals.{then-x-gt0+else-word-i-eq1+else-highest-x, then-x-gt0+else-word-i-eq1+then-highest-x, else-x-gt0}
use Rattle.check_ranks.proofs.ranks_valid.Goals.{then-b-ge-RUN_OWNER+else-is_unowned, else-b-ge-RUN_OWNER}

pub loop-b-init : goal.loop-b-init
loop-b-init c = none_met _

pub returns-then-word-i-eq1 : goal.returns-then-word-i-eq1
unfolding mark_bit bit
returns-then-word-i-eq1 c =
    let low : c.loop-b.b-index < 64 = omega arith in
    let is : 0 < rank_of c.args.s c.loop-b.b-index = omega arith in
    search false_of_met_twice

pub returns-then-is_unowned : goal.returns-then-is_unowned
returns-then-is_unowned c =
    let low : c.loop-b.b-index < 64 = omega arith in
    let is : 0 < rank_of c.args.s c.loop-b.b-index = omega arith in
    search false_of_unowned

pub overflow_add-ranked : goal.overflow_add-ranked
overflow_add-ranked c = let l = c.loop-b in let few = ranked_le _ _ _ _ _ l.invariant in omega arith

pub loop-b-preserved : goal.loop-b-preserved
unfolding mark_bit bit
loop-b-preserved c =
    let l = c.loop-b in
    let low : l.b-index < 64 = omega arith in
    let s = c.args.s in
    let fits : rank_of s l.b-index < 256 = omega arith in
    elim c.if-x-gt0.branch [
      | then-x-gt0+else-word-i-eq1+then-highest-x w ↦ (let u : is_unowned (superblock_at s l.b-index) ≡ false =
          elim w.if-b-ge-RUN_OWNER.branch [
            | then-b-ge-RUN_OWNER+else-is_unowned v ↦ sym v.is_unowned.ensures ∙ v.if-is_unowned.false
            | else-b-ge-RUN_OWNER v ↦ not_unowned_of_owner (superblock_at s l.b-index) v.if-b-ge-RUN_OWNER.false
          ] in
          step_higher s l.met l.ranked l.highest l.b-index l.invariant low w.if-x-gt0.true _ _ _ fits
          w.if-word-i-eq1.false u w.if-highest-x.true w.met-is w.ranked-is w.highest-is)
      | then-x-gt0+else-word-i-eq1+else-highest-x w ↦ (let u : is_unowned (superblock_at s l.b-index) ≡ false =
          elim w.if-b-ge-RUN_OWNER.branch [
            | then-b-ge-RUN_OWNER+else-is_unowned v ↦ sym v.is_unowned.ensures ∙ v.if-is_unowned.false
            | else-b-ge-RUN_OWNER v ↦ not_unowned_of_owner (superblock_at s l.b-index) v.if-b-ge-RUN_OWNER.false
          ] in
          step_not_higher s l.met l.ranked l.highest l.b-index l.invariant low w.if-x-gt0.true _ _ _ fits
          w.if-word-i-eq1.false u w.if-highest-x.false w.met-is w.ranked-is w.highest-is)
      | else-x-gt0 w ↦ (let none : rank_of s l.b-index ≤ 0 = omega arith in search step_unranked)
    ]

pub returns : goal.returns
returns c = search ranks_valid_of_highest
