-- A size rounded up to a multiple of 8 has the class of the size, since every block size is a multiple of 8. Assumes nothing.
use mathlib.Core.Path.{◌≡◌, refl, sym, subst, ◌∙◌}
use mathlib.Core.Bool.{Bool}
use Prim.Native.Nat.{ℕ, ◌%◌, ◌≤◌, ◌<◌}
use native.Mathlib.Nat.{le_trans, lt_of_not-le}
use native.Mathlib.Decide.{dec_lt, dec_le}
use native.Mathlib.Omega.{arith}
use lib.Dec.{eqb, eqb→eq}
use Rattle.base_laws.proofs.Inequalities.{le_of_not_below}
use Rattle.base_laws.proofs.SumLaws.{all_at}
use Rattle.base_laws.specs.Sums.{all_below}
use Rattle.class_rules.specs.Classes.{class_count, sizes, size_of, class_of}
use Rattle.class_rules.proofs.ClassTableLaws.{size_of_no_class}
use Rattle.class_rules.proofs.ClassLaws.{smaller_class_sizes_lt, size_le_size_of_class_of, class_of_unique, class_of_too_large}
use Rattle.class_of_size.specs.SizeTable.{index_of, rounded_up}

-- "rounded up to a multiple of 8": r is the least multiple of 8 that is s or more
pub record LeastMultipleOf8 (s r : ℕ) : Type 0 where
  pub multiple : r % 8 ≡ 0
  pub not_below : s ≤ r
  pub least : (m : ℕ) → m % 8 ≡ 0 → s ≤ m → r ≤ m

pub rounded_up_is_least_multiple_of_8 : (s : ℕ) → LeastMultipleOf8 s (rounded_up s)
unfolding rounded_up index_of
rounded_up_is_least_multiple_of_8 s = record { multiple = omega arith; not_below = omega arith; least = λ m e h. omega arith }

multiple_test : ℕ → Bool
multiple_test c = eqb (size_of c % 8) 0

pub block_size_is_multiple_of_8 : (c : ℕ) → size_of c % 8 ≡ 0
unfolding multiple_test all_below size_of sizes
block_size_is_multiple_of_8 c = go (dec_lt c class_count)
  where
    go : Dec (c < class_count) → size_of c % 8 ≡ 0
    go (yes h) = eqb→eq (size_of c % 8) 0 (all_at multiple_test class_count tt c h)
    go (no f) = subst (λ (b : ℕ). b % 8 ≡ 0) (sym (size_of_no_class c (le_of_not_below f))) refl

-- so a block size below a size rounded up is below the size itself
block_size_below_rounded_up : (s c : ℕ) → size_of c < rounded_up s → size_of c < s
block_size_below_rounded_up s c h =
    lt_of_not-le (λ (g : s ≤ size_of c). let l = (rounded_up_is_least_multiple_of_8 s).least (size_of c) (block_size_is_multiple_of_8 c) g in omega arith)

-- a size and its size rounded up have the same class; above 2048 no class holds either
pub class_of_rounded_up : (s : ℕ) → class_of (rounded_up s) ≡ class_of s
class_of_rounded_up s = go (dec_le s 2048)
  where
    up : LeastMultipleOf8 s (rounded_up s)
    up = rounded_up_is_least_multiple_of_8 s

    go : Dec (s ≤ 2048) → class_of (rounded_up s) ≡ class_of s
    go (yes h) =
        class_of_unique s (class_of (rounded_up s))
        (le_trans up.not_below (size_le_size_of_class_of (rounded_up s) (up.least 2048 refl h)))
        (λ k l. block_size_below_rounded_up s k (smaller_class_sizes_lt (rounded_up s) k l))
    go (no f) =
        let l : 2048 < s = lt_of_not-le f in
        let u = up.not_below in
        class_of_too_large (rounded_up s) (omega arith) ∙ sym (class_of_too_large s l)
