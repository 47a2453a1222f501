-- The blocks of the superblocks of a heap and class fit their type, and the move rule's conditions fail where the first does. Assumes nothing.
use mathlib.Core.Path.{◌≡◌, sym}
use mathlib.Core.Bool.{false}
use Prim.Native.Nat.{ℕ, ◌+◌, ◌*◌, ◌≤◌}
use native.Mathlib.Omega.{arith}
use mir.Syntax.{w32}
use mir.Val.{Fits}
use borrow.Author.Tests.{le-ltb}
use Rattle.base_laws.proofs.Inequalities.{mul_le_of_bounds}
use Rattle.move_rules.specs.Moves.{both_conditions}

-- the blocks of at most 64 superblocks
pub blocks_fit : (superblocks n : ℕ) → superblocks ≤ 64 → n ≤ 256 → Fits w32 (superblocks * n)
blocks_fit superblocks n p q = let h : superblocks * n ≤ 64 * 256 = mul_le_of_bounds 64 256 p q in omega arith

pub both_conditions_false_where_first_fails : (spare p q n a u : ℕ) → a ≤ u + spare * n → false ≡ both_conditions spare p q n a u
unfolding both_conditions
both_conditions_false_where_first_fails spare p q n a u l = sym (simp (le-ltb (u + spare * n) a l))
