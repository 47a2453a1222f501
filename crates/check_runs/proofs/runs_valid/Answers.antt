use mathlib.Core.Path.{◌≡◌}
use native.Mathlib.Omega.{arith}
use lib.ListN.{length}
use borrow.Author.Rules.{rules}
use Rattle.check_runs.proofs.RunScanLaws.{scan_start, false_of_broken_run, false_of_length_in_run, step_in_run, false_of_no_length}
use Rattle.check_runs.proofs.RunScanLaws.{false_of_above_16, step_first_of_run, false_of_length_outside, step_outside, scan_end}
use Rattle.check_runs.proofs.runs_valid.Goals as goal
use Rattle.check_runs.proofs.runs_valid.Goals.{then-left-gt0+else-b+else-b-gt0, else-left-gt0+else-b-2+else-b-gt0-2}
use Rattle.check_runs.proofs.runs_valid.Goals.{else-left-gt0+then-b-2+else-b-eq0+else-b-gt-LONGEST_RUN}

pub loop-b-init : goal.loop-b-init
loop-b-init c = scan_start _

pub returns-then-b : goal.returns-then-b
returns-then-b c =
    let long : length c.args.table ≡ 64 = search rules in
    false_of_broken_run _ _ c.loop-b.b-index long (omega arith) c.loop-b.invariant (omega arith) c.if-b.true

pub returns-then-b-gt0 : goal.returns-then-b-gt0
returns-then-b-gt0 c =
    let long : length c.args.table ≡ 64 = search rules in
    false_of_length_in_run _ _ c.loop-b.b-index long (omega arith) c.loop-b.invariant (omega arith) (omega arith)

pub returns-then-b-eq0 : goal.returns-then-b-eq0
returns-then-b-eq0 c =
    let long : length c.args.table ≡ 64 = search rules in
    false_of_no_length _ _ c.loop-b.b-index long (omega arith) c.loop-b.invariant (omega arith) c.if-b-2.true (omega arith)

pub returns-then-b-gt-LONGEST_RUN : goal.returns-then-b-gt-LONGEST_RUN
returns-then-b-gt-LONGEST_RUN c =
    let long : length c.args.table ≡ 64 = search rules in
    false_of_above_16 _ _ c.loop-b.b-index long (omega arith) c.loop-b.invariant (omega arith)
    c.if-b-2.true (omega arith)

pub returns-then-b-gt0-2 : goal.returns-then-b-gt0-2
returns-then-b-gt0-2 c =
    let long : length c.args.table ≡ 64 = search rules in
    false_of_length_outside _ _ c.loop-b.b-index long (omega arith) c.loop-b.invariant (omega arith) c.if-b-2.false
    (omega arith)

pub loop-b-preserved : goal.loop-b-preserved
loop-b-preserved c =
    let long : length c.args.table ≡ 64 = search rules in
    elim c.if-left-gt0.branch [
      | then-left-gt0+else-b+else-b-gt0 w ↦
          step_in_run _ _ c.loop-b.b-index long (omega arith) c.loop-b.invariant (omega arith) _ w.if-b.false (omega arith) w.left-is
      | else-left-gt0+then-b-2+else-b-eq0+else-b-gt-LONGEST_RUN w ↦
          step_first_of_run _ _ c.loop-b.b-index long (omega arith) c.loop-b.invariant (omega arith) _ w.if-b-2.true (omega arith)
          (omega arith) w.left-is
      | else-left-gt0+else-b-2+else-b-gt0-2 w ↦
          step_outside _ _ c.loop-b.b-index long (omega arith) c.loop-b.invariant (omega arith) _ w.if-b-2.false (omega arith) w.left-is
    ]

pub returns : goal.returns
returns c =
    let long : length c.args.table ≡ 64 = search rules in
    scan_end _ _ c.loop-b.b-index long (omega arith) c.loop-b.invariant
