-- The printed table: the rule of the block counts, and the bounds of both columns. Assumes nothing.
use mathlib.Core.Path.{◌≡◌, sym, subst}
use mathlib.Core.Bool.{Bool}
use Prim.Native.Nat.{ℕ, ◌/◌, ◌*◌, ◌≤◌, ◌<◌}
use native.Mathlib.Nat.{div-mul-le_self}
use native.Mathlib.Decide.{dec_lt}
use native.Mathlib.Omega.{arith}
use lib.Dec.{T, eqb, leb, eqb→eq, leb→le}
use lib.ListN.{get_or-eq_default}
use Rattle.base_laws.specs.Sums.{both, all_below}
use Rattle.base_laws.proofs.TestLaws.{both_left, both_right}
use Rattle.base_laws.proofs.Inequalities.{le_of_not_below}
use Rattle.base_laws.proofs.SumLaws.{all_at}
use Rattle.class_rules.specs.Classes.{class_count, sizes, counts, size_of, blocks_of}

-- "n is 4096 divided by the size, rounded down", over the whole table
count_rule_test : ℕ → Bool
count_rule_test c = eqb (blocks_of c) (4096 / size_of c)

pub blocks_of_is_quotient : (c : ℕ) → c < class_count → blocks_of c ≡ 4096 / size_of c
unfolding all_below count_rule_test blocks_of size_of counts sizes
blocks_of_is_quotient c h = eqb→eq (blocks_of c) (4096 / size_of c) (all_at count_rule_test class_count tt c h)

-- the bounds, over the whole table
bounds_test : ℕ → Bool
bounds_test c = both (leb 16 (size_of c)) (both (leb (size_of c) 2048) (both (leb 2 (blocks_of c)) (leb (blocks_of c) 256)))

pub record ClassBounds (c : ℕ) : Type 0 where
  pub size_least : 16 ≤ size_of c
  pub size_most : size_of c ≤ 2048
  pub blocks_least : 2 ≤ blocks_of c
  pub blocks_most : blocks_of c ≤ 256

all_classes_in_bounds : T (all_below bounds_test class_count)
unfolding all_below bounds_test blocks_of size_of counts sizes
all_classes_in_bounds = tt

pub class_bounds : (c : ℕ) → c < class_count → ClassBounds c
unfolding bounds_test
class_bounds c h =
    let t = all_at bounds_test class_count all_classes_in_bounds c h in
    let t₁ = both_right (leb 16 (size_of c)) _ t in
    let t₂ = both_right (leb (size_of c) 2048) _ t₁ in
    record {
      size_least = leb→le _ _ (both_left (leb 16 (size_of c)) _ t);
      size_most = leb→le _ _ (both_left (leb (size_of c) 2048) _ t₁);
      blocks_least = leb→le _ _ (both_left (leb 2 (blocks_of c)) _ t₂);
      blocks_most = leb→le _ _ (both_right (leb 2 (blocks_of c)) _ t₂);
    }

-- past the table
pub size_of_no_class : (c : ℕ) → class_count ≤ c → size_of c ≡ 0
unfolding size_of sizes
size_of_no_class c h = get_or-eq_default sizes 0 h

pub blocks_of_no_class : (c : ℕ) → class_count ≤ c → blocks_of c ≡ 0
unfolding blocks_of counts
blocks_of_no_class c h = get_or-eq_default counts 0 h

-- the bounds one by one, as callers ask for them
pub size_of_ge_16 : (c : ℕ) → c < class_count → 16 ≤ size_of c
size_of_ge_16 c h = (class_bounds c h).size_least

pub size_of_le_2048 : (c : ℕ) → size_of c ≤ 2048
size_of_le_2048 c = go (dec_lt c class_count)
  where
    go : Dec (c < class_count) → size_of c ≤ 2048
    go (yes h) = (class_bounds c h).size_most
    go (no f) = let e = size_of_no_class c (le_of_not_below f) in omega arith

pub blocks_of_ge_2 : (c : ℕ) → c < class_count → 2 ≤ blocks_of c
blocks_of_ge_2 c h = (class_bounds c h).blocks_least

pub blocks_of_pos : (c : ℕ) → c < class_count → 0 < blocks_of c
blocks_of_pos c h = let b = blocks_of_ge_2 c h in omega arith

pub blocks_of_le_256 : (c : ℕ) → blocks_of c ≤ 256
blocks_of_le_256 c = go (dec_lt c class_count)
  where
    go : Dec (c < class_count) → blocks_of c ≤ 256
    go (yes h) = (class_bounds c h).blocks_most
    go (no f) = let e = blocks_of_no_class c (le_of_not_below f) in omega arith

-- the blocks of a superblock lie within its 4096 bytes
pub blocks_fit_superblock : (c : ℕ) → c < class_count → blocks_of c * size_of c ≤ 4096
blocks_fit_superblock c h = subst (λ (n : ℕ). n * size_of c ≤ 4096) (sym (blocks_of_is_quotient c h)) (div-mul-le_self 4096 (size_of c))
