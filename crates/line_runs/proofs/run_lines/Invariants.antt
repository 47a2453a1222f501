-- `line_runs::run_lines` meets its contract. The loop's invariant: the lines of the runs that begin in the superblocks passed are put. Assumes nothing.
use Rattle.std.proofs.Common.{◌≡◌}
use Rattle.text_writer.specs.Written.{written}
use Rattle.line_rules.specs.Lines.{run_lines}
use Rattle.line_runs.proofs.run_lines.Given as goal

abbrev pub invariant-loop-k : goal.invariant-loop-k
invariant-loop-k l = l.text ≡ written l.fn.text (run_lines l.k l.fn.s)
