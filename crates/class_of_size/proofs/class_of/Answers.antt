-- `class_of_size::class_of` meets its contract: the code's table is the definition's, whose entries are the classes. Assumes nothing.
use mathlib.Core.Path.{ap, ◌∙◌}
use native.Mathlib.Nat.{le_refl}
use native.Mathlib.Omega.{arith}
use Rattle.std.specs.Option.{unwrap_or}
use Rattle.class_rules.specs.Classes.{class_count}
use Rattle.class_of_size.specs.SizeTable.{class_by_size, index_of}
use Rattle.class_of_size.proofs.SizeTableLaws.{class_read_of_size}
use Rattle.class_of_size.proofs.class_of.Goals as goal

pub returns : goal.returns
unfolding class_by_size index_of
returns c =
    c.unwrap_or.ensures ∙ ap (λ o. unwrap_or o class_count) c.copied.ensures ∙ c.get.ensures.lookup.4 (le_refl _) class_count
    ∙ class_read_of_size c.args.size c.div_ceil.result (omega arith)
