-- The blocks of a superblock by their offsets in it: block j of class c starts at j * size_of c. Assumes nothing.
use mathlib.Core.Path.{◌≡◌}
use Prim.Native.Nat.{ℕ, suc, ◌+◌, ◌*◌, ◌/◌, ◌%◌, ◌≤◌, ◌<◌}
use native.Mathlib.Nat.{mul-div_cancel, mul-mod_left, div-add-mod', eq_of_mul-eq-mul_right, mul-le-mul_right}
use native.Mathlib.Omega.{arith}
use Rattle.class_rules.specs.Classes.{class_count, size_of, blocks_of}
use Rattle.class_rules.proofs.ClassTableLaws.{size_of_ge_16, blocks_fit_superblock}

module _ (c : ℕ) (known : c < class_count) where
  size_positive : 0 < size_of c
  size_positive = let h = size_of_ge_16 c known in omega arith

  -- a block ends within the 4096 bytes
  pub block_end_le_4096 : (j : ℕ) → j < blocks_of c → j * size_of c + size_of c ≤ 4096
  block_end_le_4096 j h =
      let m : suc j * size_of c ≤ blocks_of c * size_of c = mul-le-mul_right (size_of c) h in
      let f = blocks_fit_superblock c known in
      omega arith

  pub offset_lt_4096 : (j : ℕ) → j < blocks_of c → j * size_of c < 4096
  offset_lt_4096 j h = let i = block_end_le_4096 j h in let p = size_positive in omega arith

  -- from a block's offset back to the block
  pub block_of_offset : (j : ℕ) → j * size_of c / size_of c ≡ j
  block_of_offset j = mul-div_cancel j size_positive

  pub offset_mod_size : (j : ℕ) → j * size_of c % size_of c ≡ 0
  offset_mod_size j = mul-mod_left j (size_of c)

  -- different blocks have different offsets
  pub offset_injective : (j k : ℕ) → j * size_of c ≡ k * size_of c → j ≡ k
  offset_injective j k e = eq_of_mul-eq-mul_right (size_of c) size_positive j k e

-- from an offset that is a multiple of the block size to its block and back
pub offset_of_block : (c off : ℕ) → off % size_of c ≡ 0 → off / size_of c * size_of c ≡ off
offset_of_block c off e = let d = div-add-mod' off (size_of c) in omega arith
