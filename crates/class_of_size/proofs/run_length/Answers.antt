-- `class_of_size::run_length` meets its contract: it is the definition's quotient. Assumes nothing.
use native.Mathlib.Omega.{arith}
use Rattle.class_rules.specs.Classes.{run_length}
use Rattle.class_of_size.proofs.run_length.Goals as goal

pub returns : goal.returns
unfolding run_length
returns c = omega (arith, c.div_ceil.ensures)
