-- Which of two superblocks a choice takes, by live count and rank. Assumes nothing.
use mathlib.Core.Path.{◌≡◌, refl}
use Prim.Native.Nat.{ℕ}
use Rattle.heap_rules.specs.declared.Superblock.{Superblock}
use Rattle.heap_rules.specs.Ranks.{is_ranked, is_more_recent}
use Rattle.choice_rules.specs.Choice.{more_live, fuller_or_more_recent, fewer_live, never_preferred}
use Rattle.choice_criteria.specs.declared.Criterion.{Criterion}
use Rattle.choice_criteria.specs.declared.Criterion.TheVariants.{HasFree, Belongs, Empty, Unused}
use Rattle.choice_preference.specs.Preference.{preferred_by, more_recent_rank, candidate, preferred_by_numbers}

-- what is preferred, by numbers, is what the rules say
pub preferred_by_numbers_lem : (w : Criterion) (b d : Superblock) (k m : ℕ) → preferred_by w b d ≡ preferred_by_numbers w (candidate k b) (candidate m d)
unfolding preferred_by fuller_or_more_recent more_live fewer_live never_preferred is_more_recent is_ranked more_recent_rank preferred_by_numbers
preferred_by_numbers_lem (HasFree h c) b d k m = refl
preferred_by_numbers_lem (Belongs h c) b d k m = refl
preferred_by_numbers_lem Empty b d k m = refl
preferred_by_numbers_lem Unused b d k m = refl
