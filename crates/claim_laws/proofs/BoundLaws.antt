-- The bound on a class's superblocks, from the processor heaps' own rule, where heap 0 has none of the class. Assumes nothing.
use mathlib.Core.Path.{◌≡◌, refl, ap, ◌∙◌}
use mathlib.Core.Bool.{Bool, true, false}
use mathlib.Core.List.{List}
use Prim.Native.Nat.{ℕ, suc, ◌+◌, ◌-◌, ◌*◌, ◌≤◌, ◌<◌}
use native.Mathlib.Nat.{mul-le-mul_left, mul-le-mul_right, le_trans, le_refl}
use native.Mathlib.Omega.{arith}
use borrow.Author.Tests.{ltb-false}
use lib.Dec.{T, ltb}
use Rattle.base_laws.specs.Sums.{both, sum_below}
use Rattle.base_laws.proofs.SumLaws.{sum_le_of_terms_le, sum_scale, sum_le_mul}
use Rattle.base_laws.proofs.Counting.{sum_add}
use Rattle.class_rules.specs.Classes.{class_count, blocks_of}
use Rattle.heap_rules.specs.declared.State.{State}
use Rattle.heap_rules.specs.Table.{run_owner}
use Rattle.heap_rules.specs.Counts.{superblocks_of, blocks_in, live_of, superblocks_of_class, live_of_class}
use Rattle.move_rules.specs.Moves.{both_conditions, must_move}
use Rattle.heap_laws.proofs.StateFacts.{Sound}
use Rattle.heap_laws.proofs.CountLaws.{owned_is_sum_over_heaps, live_of_heaps_le_live_of_class}
use Rattle.heap_laws.proofs.StateCheckLaws.{owned_of_owner}

-- ---- one heap
few_spare : (d q a u w : ℕ) → d ≤ q → a ≤ u + w → d * a ≤ q * u + d * w
few_spare d q a u w h l =
    let x : d * a ≤ d * (u + w) = mul-le-mul_left d l in
    let y : d * u ≤ q * u = mul-le-mul_right u h in
    omega arith

-- where the two conditions of the move rule are not both met, a heap has few blocks for those live
blocks_bound_of_not_both_conditions : (spare p q n a u : ℕ) → (T (both_conditions spare p q n a u) → ⊥) → (q - p) * a ≤ q * u + (q - p) * (spare * n)
unfolding both_conditions
blocks_bound_of_not_both_conditions spare p q n a u f = go (ltb (u + spare * n) a) (ltb (q * u) ((q - p) * a)) refl refl f
  where
    go : (x y : Bool) → ltb (u + spare * n) a ≡ x → ltb (q * u) ((q - p) * a) ≡ y → (T (both x y) → ⊥) → (q - p) * a ≤ q * u + (q - p) * (spare * n)
    go true true e g h = absurd (h tt)
    go true false e g h = let l : (q - p) * a ≤ q * u = ltb-false (q * u) ((q - p) * a) g in le_trans l (omega arith)
    go false y e g h = few_spare (q - p) q a u (spare * n) (omega arith) (ltb-false (u + spare * n) a e)

-- ---- all processor heaps
-- a bound on each heap, added up
sum_of_heap_bounds : (d n q w p : ℕ) (m v : ℕ → ℕ) → ((i : ℕ) → i < p → d * n * m i ≤ q * v i + w) → d * n * sum_below m p ≤ q * sum_below v p + p * w
sum_of_heap_bounds d n q w p m v h =
    let each : sum_below (λ i. d * n * m i) p ≤ sum_below (λ i. q * v i + w) p = sum_le_of_terms_le (λ i. d * n * m i) (λ i. q * v i + w) p h in
    let a = sum_scale (d * n) m p in
    let b = sum_add (λ i. q * v i) (λ i. w) p in
    let e = sum_scale q v p in
    let f : sum_below (λ i. w) p ≤ p * w = sum_le_mul (λ i. w) w p (λ i l. le_refl w) in
    chain (d * n * sum_below m p) (sum_below (λ i. d * n * m i) p) (sum_below (λ i. q * v i + w) p) (sum_below (λ i. q * v i) p) (sum_below (λ i. w) p)
    (q * sum_below v p) (p * w) a each b e f
  where
    chain : (x y z g k l r : ℕ) → y ≡ x → y ≤ z → z ≡ g + k → g ≡ l → k ≤ r → x ≤ l + r
    chain x y z g k l r a b e f h = omega arith

-- in the words of the claim
bound_in_claim_form : (d n q k p a m u l : ℕ) → a ≡ m → u ≤ l → d * n * m ≤ q * u + p * (d * (k * n)) → d * n * a ≤ q * l + d * p * k * n
bound_in_claim_form d n q k p a m u l e h b =
    let x : d * n * a ≡ d * n * m = ap (λ (y : ℕ). d * n * y) e in
    let y : q * u ≤ q * l = mul-le-mul_left q h in
    omega arith

module _ (s : State) (order : List ℕ) (sound : Sound s order) (c : ℕ) (known : c < class_count) where
  heap_bound : (i : ℕ) → i < s.setup.processors
      → (s.setup.q - s.setup.p) * blocks_of c * superblocks_of (suc i) c s ≤ s.setup.q * live_of
      (suc i) c s + (s.setup.q - s.setup.p) * (s.setup.spare * blocks_of c)
  unfolding must_move blocks_in
  heap_bound i l =
      regroup (s.setup.q - s.setup.p) (superblocks_of (suc i) c s) (blocks_of c)
      (s.setup.q * live_of (suc i) c s + (s.setup.q - s.setup.p) * (s.setup.spare * blocks_of c))
      (blocks_bound_of_not_both_conditions s.setup.spare s.setup.p s.setup.q (blocks_of c) (blocks_in (suc i) c s) (live_of (suc i) c s)
      (sound.invariant (suc i) c (omega arith) l known))
    where
      regroup : (d m n r : ℕ) → d * (m * n) ≤ r → d * n * m ≤ r
      regroup d m n r h = omega arith

  few_processors : s.setup.processors < run_owner
  few_processors = let h = sound.numbers.processors_high in omega arith

  -- where heap 0 has none of the class, the class's superblocks are few for its live blocks
  pub bound_of_none_in_global : superblocks_of 0 c s ≡ 0
      → (s.setup.q - s.setup.p) * blocks_of c * superblocks_of_class c s ≤ s.setup.q * live_of_class c
      s + (s.setup.q - s.setup.p) * s.setup.processors * s.setup.spare * blocks_of c
  bound_of_none_in_global none =
      bound_in_claim_form (s.setup.q - s.setup.p) (blocks_of c) s.setup.q s.setup.spare s.setup.processors
      (superblocks_of_class c s) (sum_below (λ i. superblocks_of (suc i) c s) s.setup.processors)
      (sum_below (λ i. live_of (suc i) c s) s.setup.processors) (live_of_class c s)
      (owned_is_sum_over_heaps s.setup.processors c s few_processors (λ k l f. (owned_of_owner s order sound k l f).owner)
      ∙ no_zero (superblocks_of 0 c s) (sum_below (λ i. superblocks_of (suc i) c s) s.setup.processors) none)
      (live_of_heaps_le_live_of_class s.setup.processors c s few_processors)
      (sum_of_heap_bounds (s.setup.q - s.setup.p) (blocks_of c) s.setup.q ((s.setup.q - s.setup.p) * (s.setup.spare * blocks_of c))
      s.setup.processors
      (λ i. superblocks_of (suc i) c s) (λ i. live_of (suc i) c s) heap_bound)
    where
      no_zero : (z m : ℕ) → z ≡ 0 → z + m ≡ m
      no_zero z m e = omega arith
