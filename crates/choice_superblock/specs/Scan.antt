-- One superblock looked at: one scan of the table serves all choices. Assumes nothing.
use Rattle.std.specs.Prelude.{Bool, true, ℕ, Option, Some, None}
use Rattle.base_laws.specs.Sums.{pick, both}
use Rattle.heap_rules.specs.declared.Superblock.{Superblock}
use Rattle.heap_rules.specs.Table.{live_in}
use Rattle.choice_criteria.specs.declared.Criterion.{Criterion}
use Rattle.choice_criteria.specs.Criteria.{class_fits, live_fits}
use Rattle.choice_preference.specs.declared.Candidate.{Candidate}
use Rattle.choice_preference.specs.Preference.{candidate, preferred_by_numbers}

-- a superblock that meets the criterion becomes the best where there is none yet, or where it is preferred to the best so far
unfoldable pub replaces_best : Criterion → Candidate → Option Candidate → Bool
replaces_best w b None = true
replaces_best w b (Some best) = preferred_by_numbers w b best

-- the best once superblock k, which is b and of the owner sought, was looked at
unfoldable pub best_after : Criterion → Option Candidate → ℕ → Superblock → Option Candidate
best_after w best k b =
    pick (both (class_fits w b.class) (both (live_fits w (live_in b)) (replaces_best w (candidate k b) best))) (Some (candidate k b)) best
