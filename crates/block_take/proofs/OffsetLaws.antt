-- Where a block lies in its superblock fits the width of an address. Assumes nothing.
use mathlib.Core.Path.{◌≡◌}
use Prim.Native.Nat.{ℕ, ◌*◌, ◌≤◌}
use native.Mathlib.Nat.{mul-le-mul}
use native.Mathlib.Omega.{arith}
use Rattle.class_rules.specs.Classes.{size_of}
use Rattle.class_rules.proofs.ClassTableLaws.{size_of_le_2048}

-- a block of a 16-bit number starts below 2 ^ 28 in its superblock
pub block_offset_le : (j size class : ℕ) → size ≡ size_of class → j ≤ 65535 → j * size ≤ 65535 * 2048
block_offset_le j size class e h = mul-le-mul {n₁ = j} {m₁ = size} {n₂ = 65535} {m₂ = 2048} h (let g = size_of_le_2048 class in omega arith)
