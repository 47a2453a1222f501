-- What a choice looks for, by owner, class and live count. Assumes nothing.
use mathlib.Core.Path.{◌≡◌, refl, sym, ◌∙◌}
use mathlib.Core.Bool.{Bool, true, false}
use lib.Dec.{eqb, ltb}
use Rattle.base_laws.specs.Sums.{both}
use Rattle.base_laws.proofs.TestLaws.{both_true_right}
use Rattle.class_rules.specs.Classes.{blocks_of}
use Rattle.heap_rules.specs.declared.Superblock.{Superblock}
use Rattle.heap_rules.specs.Table.{live_in, is_unused}
use Rattle.heap_rules.specs.Counts.{belongs}
use Rattle.choice_rules.specs.Choice.{has_free, empty_in_global}
use Rattle.choice_criteria.specs.declared.Criterion.{Criterion}
use Rattle.choice_criteria.specs.declared.Criterion.TheVariants.{HasFree, Belongs, Empty, Unused}
use Rattle.choice_criteria.specs.Criteria.{meets_criterion, owner_sought, class_fits, live_fits}

both_assoc : (a b c : Bool) → both (both a b) c ≡ both a (both b c)
both_assoc true b c = refl
both_assoc false b c = refl

-- what is looked for, by numbers, is what the rules say
pub meets_by_parts : (w : Criterion) (b : Superblock) → meets_criterion w b ≡ both (eqb b.owner (owner_sought w))
    (both (class_fits w b.class) (live_fits w (live_in b)))
unfolding meets_criterion has_free belongs empty_in_global is_unused owner_sought class_fits live_fits
meets_by_parts (HasFree h c) b = both_assoc (eqb b.owner h) (eqb b.class c) (ltb (live_in b) (blocks_of c))
meets_by_parts (Belongs h c) b = sym (both_true_right (both (eqb b.owner h) (eqb b.class c))) ∙ both_assoc (eqb b.owner h) (eqb b.class c) true
meets_by_parts Empty b = refl
meets_by_parts Unused b = refl
