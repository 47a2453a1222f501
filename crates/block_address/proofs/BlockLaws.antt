-- A block is one of 256, whatever its class. Assumes nothing.
use mathlib.Core.Path.{◌≡◌, ap, ◌∙◌}
use Prim.Native.Nat.{ℕ, ◌*◌, ◌/◌, ◌%◌, ◌≤◌, ◌<◌}
use native.Mathlib.Nat.{div-zero, div-lt_iff_lt-mul, mul-le-mul_left}
use native.Mathlib.Decide.{dec_lt}
use native.Mathlib.Omega.{arith}
use Rattle.base_laws.proofs.Inequalities.{le_of_not_below}
use Rattle.class_rules.specs.Classes.{class_count, size_of}
use Rattle.class_rules.proofs.ClassTableLaws.{size_of_ge_16, size_of_no_class}
use Rattle.heap_rules.specs.declared.State.{State}
use Rattle.call_rules.specs.Free.{superblock_holding, block_of}

block_of_offset_lt_256 : (a class : ℕ) → a % 4096 / size_of class < 256
block_of_offset_lt_256 a class = go (dec_lt class class_count)
  where
    go : Dec (class < class_count) → a % 4096 / size_of class < 256
    go (yes h) =
        let g : 16 ≤ size_of class = size_of_ge_16 class h in
        let m : 256 * 16 ≤ 256 * size_of class = mul-le-mul_left 256 g in
        (div-lt_iff_lt-mul {k = size_of class} {x = a % 4096} {y = 256} (omega arith)).1 (omega arith)
    go (no f) = let q : a % 4096 / size_of class ≡ 0 = ap (λ (n : ℕ). a % 4096 / n) (size_of_no_class class (le_of_not_below f)) ∙ div-zero (a % 4096) in
        omega arith

pub block_of_lt_256 : (s : State) (a j : ℕ) → j ≡ block_of s a → j < 256
unfolding block_of
block_of_lt_256 s a j e = rw e (block_of_offset_lt_256 a (superblock_holding s a).class)
