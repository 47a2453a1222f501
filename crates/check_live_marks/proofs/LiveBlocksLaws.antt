-- The live blocks of one superblock: those of its marks, but for the first of a run. Assumes nothing.
use mathlib.Core.Path.{◌≡◌, refl}
use mathlib.Core.List.{[], ◌∷◌}
use lib.Dec.{eqb, ltb}
use Rattle.base_laws.specs.Sums.{pick, both}
use Rattle.marks_rules.specs.Marks.{with_mark}
use Rattle.heap_rules.specs.declared.Superblock.{Superblock}
use Rattle.heap_rules.specs.Table.{run_owner, is_of_run, starts_run, live_blocks}

pub live_blocks_by_cases : (b : Superblock) → live_blocks b ≡ pick (both (eqb b.owner run_owner) (ltb 0 b.run)) (1 ∷ 0 ∷ 0 ∷ 0 ∷ []) b.live
unfolding live_blocks starts_run is_of_run with_mark
live_blocks_by_cases b = refl
