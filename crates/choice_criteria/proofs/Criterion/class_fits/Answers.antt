-- `choice_criteria::Criterion::class_fits` meets its contract: the other arms are proved without an answer. Assumes nothing.
use mathlib.Core.Path.{◌≡◌}
use mathlib.Core.Logic.{◌⊎◌, inl, inr}
use Prim.Native.Nat.{ℕ}
use lib.Dec.{eqb}
use Rattle.choice_criteria.specs.declared.Criterion.{Criterion}
use Rattle.choice_criteria.specs.declared.Criterion.TheVariants.{HasFree, Belongs}
use Rattle.choice_criteria.specs.Criteria.{class_fits}
use Rattle.choice_criteria.proofs.Criterion.class_fits.Goals as goal

class_of_has_free_or_belongs : (w : Criterion) (c x : ℕ) → ((h : ℕ) × (w ≡ HasFree h c)) ⊎ ((h : ℕ) × (w ≡ Belongs h c)) → eqb x c ≡ class_fits w x
unfolding class_fits
class_of_has_free_or_belongs w c x (inl e) = rw e.1
class_of_has_free_or_belongs w c x (inr e) = rw e.1

pub returns-in-HasFree : goal.returns-in-HasFree
returns-in-HasFree c = class_of_has_free_or_belongs _ _ _ c.in-HasFree.is
