-- Counts over the table: one superblock replaced, and a class's counts by heaps. Assumes nothing.
use mathlib.Core.Path.{◌≡◌, refl, sym, ap, ◌∙◌, subst}
use mathlib.Core.Bool.{Bool, true, false}
use Prim.Native.Nat.{ℕ, zero, suc, ◌+◌, ◌*◌, ◌≤◌, ◌<◌, zero-le}
use native.Mathlib.Nat.{le_refl, lt_of_not-le, mul-one, mul-zero, mul_comm, mul-le-mul_left}
use native.Mathlib.Decide.{ℕ_discrete, dec_le}
use native.Mathlib.Omega.{arith}
use borrow.Author.Tests.{eq-eqb, le-leb, lt-leb}
use lib.ListN.{length, get_or-replicate}
use lib.Seq.{get_or-set_same, get_or-set_other}
use lib.Dec.{T, eqb, leb, ltb, eqb→eq, leb→le, ltb→lt, lt→ltb}
use Rattle.base_laws.specs.Sums.{pick, both, one, sum_below}
use Rattle.base_laws.proofs.TestLaws.{T_of_true, true_of_T, false_of_not_T, equal_of_iff, both_left, both_right, both_make, one_le_one}
use Rattle.base_laws.proofs.SumLaws.{sum_cong, sum_of_zeros, sum_le_of_terms_le, sum_scale, pos_term_of_pos_sum}
use Rattle.base_laws.proofs.Counting.{sum_swap, sum_le_of_terms_le_one, indicator_sum_inside, indicator_sum_outside}
use Rattle.base_laws.proofs.ReplacedElement.{sum_set}
use Rattle.heap_rules.specs.declared.Superblock.{Superblock}
use Rattle.heap_rules.specs.declared.State.{State}
use Rattle.heap_rules.specs.declared.Setup.{Setup}
use Rattle.heap_rules.specs.Table.{run_owner, unused_owner, blank, unused, superblock_at, live_in, is_of_heap}
use Rattle.heap_rules.specs.States.{with_superblock, new_state}
use Rattle.heap_rules.specs.Counts.{total, belongs, is_owned_of_class, one_if_belongs, live_if_belongs, superblocks_of, live_of, superblocks_of_class}
use Rattle.heap_rules.specs.Counts.{live_of_class}

-- ---- one superblock replaced
pub superblock_at_replaced : (s : State) (k : ℕ) (b : Superblock) → length s.table ≡ 64 → k < 64 → superblock_at (with_superblock s k b) k ≡ b
superblock_at_replaced s k b long l = get_or-set_same s.table k b blank (omega arith)

pub superblock_at_others : (s : State) (k : ℕ) (b : Superblock) (j : ℕ) → (j ≡ k → ⊥) → superblock_at (with_superblock s k b) j ≡ superblock_at s j
superblock_at_others s k b j f = get_or-set_other s.table k j b blank f

-- the law for every count
pub total_with_superblock : (f : Superblock → ℕ) (s : State) (k : ℕ) (b : Superblock) → length s.table ≡ 64 → k < 64
    → total f (with_superblock s k b).table + f (superblock_at s k) ≡ total f s.table + f b
unfolding total
total_with_superblock f s k b long l = sum_set s.table blank k b f 64 l (omega arith)

-- a count of two states whose superblocks add the same
pub total_cong : (f : Superblock → ℕ) (s t : State) → ((k : ℕ) → k < 64 → f (superblock_at s k) ≡ f (superblock_at t k)) → total f s.table ≡ total f t.table
unfolding total
total_cong f s t h = sum_cong (λ k. f (superblock_at s k)) (λ k. f (superblock_at t k)) 64 h

-- ---- what a superblock that belongs, or not, adds to the counts
pub owner_and_class_of_belongs : (h c : ℕ) (b : Superblock) → T (belongs h c b) → (b.owner ≡ h) × (b.class ≡ c)
unfolding belongs
owner_and_class_of_belongs h c b t =
    (eqb→eq b.owner h (both_left (eqb b.owner h) (eqb b.class c) t), eqb→eq b.class c (both_right (eqb b.owner h) (eqb b.class c) t))

pub belongs_of_owner_and_class : (h c : ℕ) (b : Superblock) → b.owner ≡ h → b.class ≡ c → T (belongs h c b)
unfolding belongs
belongs_of_owner_and_class h c b p q = both_make (eqb b.owner h) (eqb b.class c) (T_of_true _ (eq-eqb b.owner h p))
    (T_of_true _ (eq-eqb b.class c q))

pub belongs_true : (h c : ℕ) (b : Superblock) → b.owner ≡ h → b.class ≡ c → belongs h c b ≡ true
belongs_true h c b p q = true_of_T (belongs h c b) (belongs_of_owner_and_class h c b p q)

pub not_belongs_of_other_owner : (h c : ℕ) (b : Superblock) → (b.owner ≡ h → ⊥) → belongs h c b ≡ false
not_belongs_of_other_owner h c b f = false_of_not_T (belongs h c b) (λ t. f (owner_and_class_of_belongs h c b t).0)

pub not_belongs_of_other_class : (h c : ℕ) (b : Superblock) → (b.class ≡ c → ⊥) → belongs h c b ≡ false
not_belongs_of_other_class h c b f = false_of_not_T (belongs h c b) (λ t. f (owner_and_class_of_belongs h c b t).1)

pub one_if_belongs_is_1 : (h c : ℕ) (b : Superblock) → b.owner ≡ h → b.class ≡ c → one_if_belongs h c b ≡ 1
unfolding one_if_belongs
one_if_belongs_is_1 h c b p q = ap one (belongs_true h c b p q)

pub one_if_belongs_other_owner : (h c : ℕ) (b : Superblock) → (b.owner ≡ h → ⊥) → one_if_belongs h c b ≡ 0
unfolding one_if_belongs
one_if_belongs_other_owner h c b f = ap one (not_belongs_of_other_owner h c b f)

pub one_if_belongs_other_class : (h c : ℕ) (b : Superblock) → (b.class ≡ c → ⊥) → one_if_belongs h c b ≡ 0
unfolding one_if_belongs
one_if_belongs_other_class h c b f = ap one (not_belongs_of_other_class h c b f)

pub live_if_belongs_is_live_in : (h c : ℕ) (b : Superblock) → b.owner ≡ h → b.class ≡ c → live_if_belongs h c b ≡ live_in b
unfolding live_if_belongs
live_if_belongs_is_live_in h c b p q = rw (belongs_true h c b p q)

pub live_if_belongs_other_owner : (h c : ℕ) (b : Superblock) → (b.owner ≡ h → ⊥) → live_if_belongs h c b ≡ 0
unfolding live_if_belongs
live_if_belongs_other_owner h c b f = rw (not_belongs_of_other_owner h c b f)

pub live_if_belongs_other_class : (h c : ℕ) (b : Superblock) → (b.class ≡ c → ⊥) → live_if_belongs h c b ≡ 0
unfolding live_if_belongs
live_if_belongs_other_class h c b f = rw (not_belongs_of_other_class h c b f)

-- 1 or 0 by the test of one superblock
true_of_one_pos : (t : Bool) → 0 < one t → T t
true_of_one_pos true h = tt
true_of_one_pos false h = absurd (let z : ⊥ = omega arith in z)

one_by_owner : (h c : ℕ) (b : Superblock) → b.class ≡ c → one_if_belongs h c b ≡ one (eqb b.owner h)
unfolding one_if_belongs belongs
one_by_owner h c b e = rw (eq-eqb b.class c e) (last (eqb b.owner h))
  where
    last : (t : Bool) → one (both t true) ≡ one t
    last true = refl
    last false = refl

pick_as_product : (t : Bool) (x : ℕ) → pick t x 0 ≡ x * one t
pick_as_product true x = sym (mul-one x)
pick_as_product false x = sym (mul-zero x)

live_if_belongs_as_product : (h c : ℕ) (b : Superblock) → live_if_belongs h c b ≡ live_in b * one_if_belongs h c b
unfolding live_if_belongs one_if_belongs
live_if_belongs_as_product h c b = pick_as_product (belongs h c b) (live_in b)

-- ---- a heap's superblocks of a class
pub belongs_of_superblocks_pos : (h c : ℕ) (s : State) → 0 < superblocks_of h c s → (k : ℕ) × (k < 64) × T (belongs h c (superblock_at s k))
unfolding superblocks_of total one_if_belongs
belongs_of_superblocks_pos h c s p =
    let r = pos_term_of_pos_sum (λ k. one (belongs h c (superblock_at s k))) 64 p in
    (r.0, r.1, true_of_one_pos (belongs h c (superblock_at s r.0)) r.2)

pub superblocks_zero_of_none_belongs : (h c : ℕ) (s : State) → ((k : ℕ) → k < 64 → T (belongs h c (superblock_at s k)) → ⊥) → superblocks_of h c s ≡ 0
unfolding superblocks_of total one_if_belongs
superblocks_zero_of_none_belongs h c s f = sum_of_zeros (λ k. one (belongs h c (superblock_at s k))) 64
    (λ k l. ap one (false_of_not_T (belongs h c (superblock_at s k)) (f k l)))

pub superblocks_of_le_64 : (h c : ℕ) (s : State) → superblocks_of h c s ≤ 64
unfolding superblocks_of total one_if_belongs
superblocks_of_le_64 h c s = sum_le_of_terms_le_one (λ k. one (belongs h c (superblock_at s k))) 64 (λ k l. one_le_one (belongs h c (superblock_at s k)))

-- where each superblock of the heap and class has at least l live, there are at least l for each
pub live_of_at_least_each : (h c l : ℕ) (s : State) → ((k : ℕ) → k < 64 → T (belongs h c (superblock_at s k)) → l ≤ live_in (superblock_at s k))
    → superblocks_of h c s * l ≤ live_of h c s
unfolding superblocks_of live_of total one_if_belongs live_if_belongs
live_of_at_least_each h c l s f =
    let e = sum_scale l (λ k. one (belongs h c (superblock_at s k))) 64 in
    let m = mul_comm (sum_below (λ k. one (belongs h c (superblock_at s k))) 64) l in
    let g = sum_le_of_terms_le (λ k. l * one (belongs h c (superblock_at s k))) (λ k. pick (belongs h c (superblock_at s k)) (live_in (superblock_at s k)) 0) 64
    (λ k lk. each (belongs h c (superblock_at s k)) (live_in (superblock_at s k)) (f k lk)) in
    omega arith
  where
    each : (t : Bool) (x : ℕ) → (T t → l ≤ x) → l * one t ≤ pick t x 0
    each true x g = omega (arith, g tt)
    each false x g = omega arith

-- ---- a class's counts by heaps
pub facts_of_owned_of_class : (c : ℕ) (b : Superblock) → T (is_owned_of_class c b) → (b.owner < run_owner) × (b.class ≡ c)
unfolding is_owned_of_class is_of_heap
facts_of_owned_of_class c b t = (
  ltb→lt b.owner run_owner (both_left (ltb b.owner run_owner) (eqb b.class c) t),
  eqb→eq b.class c (both_right (ltb b.owner run_owner) (eqb b.class c) t),
)

pub owned_of_class_of_facts : (c : ℕ) (b : Superblock) → b.owner < run_owner → b.class ≡ c → T (is_owned_of_class c b)
unfolding is_owned_of_class is_of_heap
owned_of_class_of_facts c b l q = both_make (ltb b.owner run_owner) (eqb b.class c) (lt→ltb b.owner run_owner l) (T_of_true _ (eq-eqb b.class c q))

-- heap 0 and the heaps after it
pub sum_from_heap_0 : (f : ℕ → ℕ) (p : ℕ) → f 0 + sum_below (λ i. f (suc i)) p ≡ sum_below f (suc p)
unfolding sum_below
sum_from_heap_0 f zero = omega arith
sum_from_heap_0 f (suc p) = let e = sum_from_heap_0 f p in omega arith

-- a superblock of class c is one of one heap, or none of heaps 0 to p
owned_by_heaps_to : ℕ → ℕ → Superblock → Bool
owned_by_heaps_to p c b = both (leb b.owner p) (eqb b.class c)

sum_over_heaps_of_one : (p c : ℕ) (b : Superblock) → sum_below (λ i. one_if_belongs i c b) (suc p) ≡ one (owned_by_heaps_to p c b)
unfolding owned_by_heaps_to
sum_over_heaps_of_one p c b = go (ℕ_discrete b.class c) (dec_le b.owner p)
  where
    hits : b.class ≡ c → sum_below (λ i. one_if_belongs i c b) (suc p) ≡ sum_below (λ i. one (eqb b.owner i)) (suc p)
    hits e = sum_cong (λ i. one_if_belongs i c b) (λ i. one (eqb b.owner i)) (suc p) (λ i l. one_by_owner i c b e)

    go : Dec (b.class ≡ c) → Dec (b.owner ≤ p) → sum_below (λ i. one_if_belongs i c b) (suc p) ≡ one (both (leb b.owner p) (eqb b.class c))
    go (no f) d = sum_of_zeros (λ i. one_if_belongs i c b) (suc p) (λ i l. one_if_belongs_other_class i c b f)
        ∙ sym (ap one (false_of_not_T (both (leb b.owner p) (eqb b.class c))
        (λ t. f (eqb→eq b.class c (both_right (leb b.owner p) (eqb b.class c) t)))))
    go (yes e) (yes l) = hits e ∙ indicator_sum_inside b.owner (suc p) (omega arith) ∙ simp (le-leb b.owner p l, eq-eqb b.class c e)
    go (yes e) (no f) = hits e ∙ indicator_sum_outside b.owner (suc p) (lt_of_not-le f) ∙ simp (lt-leb b.owner p (lt_of_not-le f))

owned_of_class_of_heaps : (p c : ℕ) (b : Superblock) → p < run_owner → T (owned_by_heaps_to p c b) → T (is_owned_of_class c b)
unfolding owned_by_heaps_to
owned_of_class_of_heaps p c b q t =
    let l : b.owner ≤ p = leb→le b.owner p (both_left (leb b.owner p) (eqb b.class c) t) in
    owned_of_class_of_facts c b (omega arith) (eqb→eq b.class c (both_right (leb b.owner p) (eqb b.class c) t))

heaps_of_owned_of_class : (p c : ℕ) (b : Superblock) → (b.owner < run_owner → b.owner ≤ p) → T (is_owned_of_class c b) → T (owned_by_heaps_to p c b)
unfolding owned_by_heaps_to
heaps_of_owned_of_class p c b h t =
    let o = facts_of_owned_of_class c b t in
    both_make (leb b.owner p) (eqb b.class c) (T_of_true _ (le-leb b.owner p (h o.0))) (T_of_true _ (eq-eqb b.class c o.1))

-- over any n heaps a superblock's live blocks are counted as often as the superblock itself
live_over_heaps : (h : ℕ → ℕ) (n c : ℕ) (b : Superblock) → sum_below (λ i. live_if_belongs (h i) c b) n
    ≡ live_in b * sum_below (λ i. one_if_belongs (h i) c b) n
live_over_heaps h n c b =
    sum_cong (λ i. live_if_belongs (h i) c b) (λ i. live_in b * one_if_belongs (h i) c b) n (λ i l. live_if_belongs_as_product (h i) c b)
    ∙ sum_scale (live_in b) (λ i. one_if_belongs (h i) c b) n

-- where a number of each superblock is the sum of a number for each heap, so are the totals
total_over_heaps : (p : ℕ) (s : State) (f : Superblock → ℕ) (g : ℕ → Superblock → ℕ)
    → ((k : ℕ) → k < 64 → f (superblock_at s k) ≡ sum_below (λ i. g i (superblock_at s k)) (suc p))
    → total f s.table ≡ total (g 0) s.table + sum_below (λ i. total (g (suc i)) s.table) p
unfolding total
total_over_heaps p s f g each =
    sum_cong (λ k. f (superblock_at s k)) (λ k. sum_below (λ i. g i (superblock_at s k)) (suc p)) 64 each
    ∙ sum_swap (λ k i. g i (superblock_at s k)) 64 (suc p)
    ∙ sym (sum_from_heap_0 (λ i. sum_below (λ k. g i (superblock_at s k)) 64) p)

-- where each superblock that a heap owns is owned by heap 0 to P, a class's superblocks are those of its heaps, and so are its live blocks
module _ (p c : ℕ) (s : State) (q : p < run_owner) (h : (k : ℕ) → k < 64 → (superblock_at s k).owner < run_owner → (superblock_at s k).owner ≤ p) where
  one_over_heaps : (k : ℕ) → k < 64 → one (is_owned_of_class c (superblock_at s k)) ≡ sum_below (λ i. one_if_belongs i c (superblock_at s k)) (suc p)
  one_over_heaps k l =
      ap one (equal_of_iff (is_owned_of_class c (superblock_at s k)) (owned_by_heaps_to p c (superblock_at s k))
      (heaps_of_owned_of_class p c (superblock_at s k) (h k l)) (owned_of_class_of_heaps p c (superblock_at s k) q))
      ∙ sym (sum_over_heaps_of_one p c (superblock_at s k))

  pub owned_is_sum_over_heaps : superblocks_of_class c s ≡ superblocks_of 0 c s + sum_below (λ i. superblocks_of (suc i) c s) p
  unfolding superblocks_of_class superblocks_of
  owned_is_sum_over_heaps = total_over_heaps p s (λ b. one (is_owned_of_class c b)) (λ i. one_if_belongs i c) one_over_heaps

  pub live_is_sum_over_heaps : live_of_class c s ≡ live_of 0 c s + sum_below (λ i. live_of (suc i) c s) p
  unfolding live_of_class live_of
  live_is_sum_over_heaps =
      total_over_heaps p s (λ b. pick (is_owned_of_class c b) (live_in b) 0) (λ i. live_if_belongs i c)
      (λ k l.
      pick_as_product (is_owned_of_class c (superblock_at s k)) (live_in (superblock_at s k))
      ∙ ap (λ (x : ℕ). live_in (superblock_at s k) * x) (one_over_heaps k l)
      ∙ sym (live_over_heaps (λ i. i) (suc p) c (superblock_at s k)))

one_mono : (a b : Bool) → (T a → T b) → one a ≤ one b
one_mono true true f = le_refl 1
one_mono true false f = absurd (f tt)
one_mono false b f = zero-le

-- the live blocks in processor heaps are some of the class's
pub live_of_heaps_le_live_of_class : (p c : ℕ) (s : State) → p < run_owner → sum_below (λ i. live_of (suc i) c s) p ≤ live_of_class c s
unfolding live_of live_of_class total
live_of_heaps_le_live_of_class p c s q =
    subst (λ (x : ℕ). x ≤ sum_below (λ k. pick (is_owned_of_class c (superblock_at s k)) (live_in (superblock_at s k)) 0) 64)
    (sym (sum_swap (λ i k. live_if_belongs (suc i) c (superblock_at s k)) p 64))
    (sum_le_of_terms_le (λ k. sum_below (λ i. live_if_belongs (suc i) c (superblock_at s k)) p)
    (λ k. pick (is_owned_of_class c (superblock_at s k)) (live_in (superblock_at s k)) 0) 64 (λ k l. each (superblock_at s k)))
  where
    each : (b : Superblock) → sum_below (λ i. live_if_belongs (suc i) c b) p ≤ pick (is_owned_of_class c b) (live_in b) 0
    each b =
        let scaled = live_over_heaps suc p c b in
        let few : sum_below (λ i. one_if_belongs (suc i) c b) p ≤ one (is_owned_of_class c b) =
        omega (
          arith,
          sum_from_heap_0 (λ i. one_if_belongs i c b) p,
          sum_over_heaps_of_one p c b,
          one_mono (owned_by_heaps_to p c b) (is_owned_of_class c b)
              (owned_of_class_of_heaps p c b q),
        ) in
        omega (arith, pick_as_product (is_owned_of_class c b) (live_in b), mul-le-mul_left (live_in b) few)

-- ---- a new state has none
total_of_new_state : (f : Superblock → ℕ) (u : Setup) → f unused ≡ 0 → total f (new_state u).table ≡ 0
unfolding total
total_of_new_state f u e = sum_of_zeros (λ k. f (superblock_at (new_state u) k)) 64 (λ k l. ap f (get_or-replicate 64 k unused blank l) ∙ e)

pub superblocks_of_new_state : (u : Setup) (h c : ℕ) → h < unused_owner → superblocks_of h c (new_state u) ≡ 0
unfolding superblocks_of
superblocks_of_new_state u h c l = total_of_new_state (one_if_belongs h c) u (one_if_belongs_other_owner h c unused (λ (q : unused.owner ≡ h). omega arith))

pub owned_of_new_state : (u : Setup) (c : ℕ) → superblocks_of_class c (new_state u) ≡ 0
unfolding superblocks_of_class is_owned_of_class is_of_heap
owned_of_new_state u c = total_of_new_state (λ b. one (is_owned_of_class c b)) u refl

pub live_of_class_of_new_state : (u : Setup) (c : ℕ) → live_of_class c (new_state u) ≡ 0
unfolding live_of_class is_owned_of_class is_of_heap
live_of_class_of_new_state u c = total_of_new_state (λ b. pick (is_owned_of_class c b) (live_in b) 0) u refl
