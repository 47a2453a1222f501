-- `choice_criteria::Criterion::live_fits` meets its contract: the other arms are proved without an answer. Assumes nothing.
use mathlib.Core.Path.{◌≡◌}
use Prim.Native.Nat.{ℕ}
use lib.Dec.{ltb}
use Rattle.class_rules.specs.Classes.{blocks_of}
use Rattle.choice_criteria.specs.declared.Criterion.{Criterion}
use Rattle.choice_criteria.specs.declared.Criterion.TheVariants.{HasFree}
use Rattle.choice_criteria.specs.Criteria.{live_fits}
use Rattle.choice_criteria.proofs.Criterion.live_fits.Goals as goal

live_of_has_free : (w : Criterion) (h c n m : ℕ) → w ≡ HasFree h c → m ≡ blocks_of c → ltb n m ≡ live_fits w n
unfolding live_fits
live_of_has_free w h c n m e p = rw (e, p)

pub returns-in-HasFree : goal.returns-in-HasFree
returns-in-HasFree c = live_of_has_free _ _ _ _ _ c.in-HasFree.is c.block_count.ensures.0
