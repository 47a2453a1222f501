-- `line_runs::run_lines` meets its contract: one superblock more is a line more where it is the first of a run. Assumes nothing.
use Rattle.std.proofs.Common.{rules}
use Rattle.text_writer.proofs.WriteLaws.{written_then}
use Rattle.line_runs.proofs.RunLinesLaws.{run_lines_of_none, run_lines_after_first, run_lines_after_other}
use Rattle.line_runs.proofs.run_lines.Goals as goal
use Rattle.line_runs.proofs.run_lines.Goals.{then-starts_run, else-starts_run}

pub loop-k-init : goal.loop-k-init
loop-k-init c = rw run_lines_of_none c.put_nothing.ensures

pub loop-k-preserved : goal.loop-k-preserved
loop-k-preserved c =
    let first = run_lines_after_first c.args.s c.loop-k.k in
    let other = run_lines_after_other c.args.s c.loop-k.k in
    elim c.if-starts_run.branch [
      | then-starts_run w ↦ rw (w.text-is, first (search rules)) (written_then _ _ _ c.loop-k.invariant w.run_line.ensures)
      | else-starts_run w ↦ rw (w.text-is, other (search rules)) c.loop-k.invariant
    ]
