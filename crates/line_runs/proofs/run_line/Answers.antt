-- `line_runs::run_line` meets its contract: the fields one after another. Assumes nothing.
use Rattle.text_writer.proofs.WriteLaws.{in_a_row}
use Rattle.line_rules.specs.Lines.{run_line}
use Rattle.line_runs.proofs.run_line.Goals as goal

pub returns : goal.returns
unfolding run_line
returns c = search in_a_row
