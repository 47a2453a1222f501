-- `class_of_size::is_long` meets its contract: it is the definition's test. Assumes nothing.
use mathlib.Core.Path.{refl}
use Rattle.class_rules.specs.Classes.{is_long}
use Rattle.class_of_size.proofs.is_long.Goals as goal

pub returns : goal.returns
unfolding is_long
returns c = refl
