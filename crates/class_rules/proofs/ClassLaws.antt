-- The class of a size is the smallest that holds it, and which sizes none holds. Assumes nothing.
use mathlib.Core.Path.{◌≡◌, refl}
use mathlib.Core.Bool.{true, false}
use Prim.Native.Nat.{ℕ, ◌*◌, ◌≤◌, ◌<◌}
use native.Mathlib.Nat.{lt_of_not-le, le_antisymm}
use native.Mathlib.Omega.{arith}
use borrow.Author.Tests.{ltb-true, ltb-false}
use lib.Dec.{ltb}
use Rattle.base_laws.proofs.Inequalities.{le_of_not_below}
use Rattle.base_laws.proofs.Decides.{Decides, decides, false_of_decides}
use Rattle.class_rules.specs.Classes.{class_count, sizes, size_of, first_at_least, class_of, is_long, run_length, is_too_large}
use Rattle.class_rules.proofs.FirstAtLeastLaws.{le_first_at_least, before_first_at_least_lt, first_at_least_le_length}
use Rattle.class_rules.proofs.ClassTableLaws.{size_of_le_2048}

pub smaller_class_sizes_lt : (s k : ℕ) → k < class_of s → size_of k < s
unfolding class_of size_of
smaller_class_sizes_lt s k h = before_first_at_least_lt s sizes k h

pub class_of_le_27 : (s : ℕ) → class_of s ≤ class_count
unfolding class_of sizes
class_of_le_27 s = first_at_least_le_length s sizes

class_of_holds_below_27 : (s : ℕ) → class_of s < class_count → s ≤ size_of (class_of s)
unfolding class_of size_of sizes
class_of_holds_below_27 s h = le_first_at_least s sizes h

size_of_class_26 : size_of 26 ≡ 2048
unfolding size_of sizes
size_of_class_26 = refl

pub class_of_lt_27 : (s : ℕ) → s ≤ 2048 → class_of s < class_count
class_of_lt_27 s h = lt_of_not-le (λ (g : class_count ≤ class_of s). let b = smaller_class_sizes_lt s 26 g in let e = size_of_class_26 in omega arith)

pub size_le_size_of_class_of : (s : ℕ) → s ≤ 2048 → s ≤ size_of (class_of s)
size_le_size_of_class_of s h = class_of_holds_below_27 s (class_of_lt_27 s h)

-- no class holds a size above 2048
pub class_of_too_large : (s : ℕ) → 2048 < s → class_of s ≡ class_count
class_of_too_large s h =
    le_antisymm (class_of_le_27 s)
    (le_of_not_below (λ (l : class_of s < class_count). let b = class_of_holds_below_27 s l in let m = size_of_le_2048 (class_of s) in omega arith))

-- a class that holds s, and below which none does, is the class of s
pub class_of_unique : (s c : ℕ) → s ≤ size_of c → ((k : ℕ) → k < c → size_of k < s) → c ≡ class_of s
class_of_unique s c h least =
    let m = size_of_le_2048 c in
    let a : s ≤ size_of (class_of s) = size_le_size_of_class_of s (omega arith) in
    le_antisymm
    (le_of_not_below (λ (l : class_of s < c). let b = least (class_of s) l in omega arith))
    (le_of_not_below (λ (l : c < class_of s). let b = smaller_class_sizes_lt s c l in omega arith))

-- ---- document 02, item 7: "A size of 2049 to 65535"
pub decides_long : (s : ℕ) → Decides (is_long s) (2048 < s) (s ≤ 2048)
unfolding is_long
decides_long s = decides (ltb 2048 s) (ltb-true 2048 s) (ltb-false 2048 s) (λ l h. omega arith)

pub le_2048_of_not_long : (s : ℕ) → is_long s ≡ false → s ≤ 2048
unfolding is_long
le_2048_of_not_long s = ltb-false 2048 s

-- "as many as size / 4096 rounded up": they hold the size, and one less would not
pub run_length_holds : (s : ℕ) → s ≤ run_length s * 4096
unfolding run_length
run_length_holds s = omega arith

pub run_length_is_least : (s n : ℕ) → s ≤ n * 4096 → run_length s ≤ n
unfolding run_length
run_length_is_least s n h = omega arith

-- a long size takes 1 to 16 superblocks
pub run_length_pos : (s : ℕ) → is_long s ≡ true → 1 ≤ run_length s
unfolding is_long run_length
run_length_pos s e = let l = ltb-true 2048 s e in omega arith

pub run_length_le_16 : (s : ℕ) → is_too_large s ≡ false → run_length s ≤ 16
unfolding is_too_large run_length
run_length_le_16 s e = let l = ltb-false 65535 s e in omega arith

-- ---- "As a size has 16 bits, refusal 3 can no longer be met"
pub decides_too_large : (s : ℕ) → Decides (is_too_large s) (65535 < s) (s ≤ 65535)
unfolding is_too_large
decides_too_large s = decides (ltb 65535 s) (ltb-true 65535 s) (ltb-false 65535 s) (λ l h. omega arith)

pub size_of_16_bits_not_too_large : (s : ℕ) → s < 65536 → is_too_large s ≡ false
size_of_16_bits_not_too_large s l = false_of_decides (decides_too_large s) (omega arith)

-- "Size 0 now takes class 0"
pub class_of_size_0 : class_of 0 ≡ 0
unfolding class_of first_at_least sizes
class_of_size_0 = refl
