-- The totals with one superblock more, or one fewer, counted in them. Assumes nothing.
use Rattle.std.specs.Prelude.{ℕ, ◌-◌, List, Option, Some, None, get_or, set, ltb}
use Rattle.base_laws.specs.Sums.{pick, both}
use Rattle.class_rules.specs.Classes.{class_count}
use Rattle.heap_rules.specs.declared.Superblock.{Superblock}
use Rattle.heap_rules.specs.declared.Totals.{Totals}
use Rattle.heap_rules.specs.Table.{live_in}
use Rattle.heap_rules.specs.Totals.{heap_count, total_index, is_counted, with_counted}

-- where the totals of a heap and class stand; none where none are kept
unfoldable pub index_of : ℕ → ℕ → Option ℕ
index_of h c = pick (both (ltb h heap_count) (ltb c class_count)) (Some (total_index h c)) None

-- a number of the superblock, taken away at its heap and class
unfoldable pub without_counted : (Superblock → ℕ) → Superblock → List ℕ → List ℕ
without_counted f b l = pick (is_counted b) (set l (total_index b.owner b.class) (get_or l (total_index b.owner b.class) 0 - f b)) l

-- the totals with superblock b counted; and no longer
unfoldable pub counted_in : Superblock → Totals → Totals
counted_in b t = record { superblocks = with_counted (λ x. 1) b t.superblocks; live = with_counted live_in b t.live }

unfoldable pub counted_out : Superblock → Totals → Totals
counted_out b t = record { superblocks = without_counted (λ x. 1) b t.superblocks; live = without_counted live_in b t.live }
