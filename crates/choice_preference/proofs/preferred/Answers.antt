-- `choice_preference::preferred` meets its contract: the other ways out are proved without an answer. Assumes nothing.
use mathlib.Core.Path.{◌≡◌}
use mathlib.Core.Bool.{Bool}
use Prim.Native.Nat.{ℕ, ◌≤◌}
use borrow.Author.Tests.{eq-eqb, le-ltb}
use lib.Dec.{ltb}
use Rattle.choice_criteria.specs.declared.Criterion.{Criterion}
use Rattle.choice_criteria.specs.declared.Criterion.TheVariants.{HasFree, Belongs}
use Rattle.choice_preference.specs.declared.Candidate.{Candidate}
use Rattle.choice_preference.specs.Preference.{more_recent_rank, preferred_by_numbers}
use Rattle.choice_preference.proofs.preferred.Goals as goal

module _ (w : Criterion) (b best : Candidate) (h c : ℕ) where
  preferred_more_recent : (t : Bool) → w ≡ HasFree h c → b.live ≤ best.live → b.live ≡ best.live → t ≡ more_recent_rank b.rank best.rank
      → t ≡ preferred_by_numbers w b best
  unfolding preferred_by_numbers
  preferred_more_recent t e l f g = rw (e, le-ltb best.live b.live l, eq-eqb b.live best.live f, g)

  preferred_fewer_live : w ≡ Belongs h c → ltb b.live best.live ≡ preferred_by_numbers w b best
  unfolding preferred_by_numbers
  preferred_fewer_live e = rw e

pub returns-then-b-best : goal.returns-then-b-best
returns-then-b-best c = preferred_more_recent _ _ _ _ _ _ c.in-HasFree.is c.if-best-b.false c.if-b-best.true c.more_recent.ensures

pub returns-in-Belongs : goal.returns-in-Belongs
returns-in-Belongs c = preferred_fewer_live _ _ _ _ _ c.in-Belongs.is
