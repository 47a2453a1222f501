-- The emptiness invariant of document 01, "The state handed in", by totals. Assumes nothing.
use Rattle.std.specs.Prelude.{Bool, not, ℕ, ◌*◌, get_or}
use Rattle.base_laws.specs.Sums.{either, all_below}
use Rattle.class_rules.specs.Classes.{class_count, blocks_of}
use Rattle.heap_rules.specs.declared.Setup.{Setup}
use Rattle.heap_rules.specs.declared.Totals.{Totals}
use Rattle.heap_rules.specs.Totals.{heap_count, total_index}
use Rattle.move_rules.specs.Moves.{both_conditions}
use Rattle.check_rules.specs.Check.{within}

-- so many superblocks of class c, with so many live blocks in them, do not meet both conditions of the move rule
unfoldable pub pair_invariant : Setup → ℕ → ℕ → ℕ → Bool
pair_invariant u c superblocks live = not (both_conditions u.spare u.p u.q (blocks_of c) (superblocks * blocks_of c) live)

-- class c of heap h keeps the emptiness invariant, by the totals
abbrev pub class_invariant : Setup → Totals → ℕ → ℕ → Bool
class_invariant u t h c = pair_invariant u c (get_or t.superblocks (total_index h c) 0) (get_or t.live (total_index h c) 0)

-- heap h is no processor's, or keeps it in each class
unfoldable pub heap_invariant : Setup → Totals → ℕ → Bool
heap_invariant u t h = either (not (within 1 u.processors h)) (all_below (class_invariant u t h) class_count)

-- all heaps of which totals are kept
unfoldable pub totals_invariant : Setup → Totals → Bool
totals_invariant u t = all_below (heap_invariant u t) heap_count
