-- `names_table::unbind_block` meets its contract. The names passed are let go where they point at the block, and the others are as they were.
-- Assumes nothing.
use mathlib.Core.Path.{◌≡◌}
use Prim.Native.Nat.{ℕ, ◌<◌, ◌≤◌}
use lib.Dec.{eqb}
use lib.ListN.{get_or}
use Rattle.base_laws.specs.Sums.{pick}
use Rattle.names_rules.specs.Names.{not_held}
use Rattle.names_table.proofs.unbind_block.Given as goal

abbrev pub invariant-loop-held : goal.invariant-loop-held
invariant-loop-held l =
    ((k : ℕ) → k < l.held-index → get_or l.held-items k 0 ≡ pick (eqb (get_or l.initial.held-items k 0) l.block) not_held (get_or l.initial.held-items k 0))
    × ((k : ℕ) → l.held-index ≤ k → get_or l.held-items k 0 ≡ get_or l.initial.held-items k 0)
