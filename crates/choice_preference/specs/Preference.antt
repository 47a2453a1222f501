-- Which of two superblocks each choice takes. Assumes nothing.
use Rattle.std.specs.Prelude.{Bool, false, not, ℕ, eqb, ltb}
use Rattle.base_laws.specs.Sums.{both, either}
use Rattle.heap_rules.specs.declared.Superblock.{Superblock}
use Rattle.heap_rules.specs.Table.{live_in}
use Rattle.choice_rules.specs.Choice.{fuller_or_more_recent, fewer_live, never_preferred}
use Rattle.choice_criteria.specs.declared.Criterion.{Criterion}
use Rattle.choice_criteria.specs.declared.Criterion.TheVariants.{HasFree, Belongs, Empty, Unused}
use Rattle.choice_preference.specs.declared.Candidate.{Candidate}

-- "most live first", and "Among equally full superblocks .. the one freed into most recently" (document 02, item 4); "with the fewest live"; "the
-- lowest-numbered"
unfoldable pub preferred_by : Criterion → Superblock → Superblock → Bool
preferred_by (HasFree h c) = fuller_or_more_recent
preferred_by (Belongs h c) = fewer_live
preferred_by Empty = never_preferred
preferred_by Unused = never_preferred

-- ---- preferred_by by numbers, in the order of the code (the law preferred_by_numbers_lem says that it is the same)
-- by the ranks of two superblocks: the first was freed into more recently
unfoldable pub more_recent_rank : ℕ → ℕ → Bool
more_recent_rank rank other = both (ltb 0 rank) (either (not (ltb 0 other)) (ltb rank other))

-- superblock k, which is b, as a candidate
abbrev pub candidate : ℕ → Superblock → Candidate
candidate k b = record { number = k; live = live_in b; rank = b.rank }

-- by live count and rank of two superblocks: the first is preferred
unfoldable pub preferred_by_numbers : Criterion → Candidate → Candidate → Bool
preferred_by_numbers (HasFree h c) b best = either (ltb best.live b.live) (both (eqb b.live best.live) (more_recent_rank b.rank best.rank))
preferred_by_numbers (Belongs h c) b best = ltb b.live best.live
preferred_by_numbers Empty b best = false
preferred_by_numbers Unused b best = false
