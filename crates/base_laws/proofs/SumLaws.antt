-- Laws of sums and tests over the numbers below n. Assumes nothing.
use mathlib.Core.Path.{◌≡◌, refl, sym, ap, ap₂, ◌∙◌, subst}
use mathlib.Core.Bool.{Bool, true, false}
use mathlib.Core.Logic.{◌⊎◌, inl, inr, ⊎_elim}
use Prim.Native.Nat.{ℕ, zero, suc, ◌+◌, ◌*◌, ◌≤◌, ◌<◌, zero-le}
use native.Mathlib.Nat.{eq-or-lt_of_le, le_of_suc-le-suc, not-suc-le-zero, lt-suc_self, add-zero, add-suc, lt_irrefl, eq-zero-or-pos, le_refl, mul-zero}
use native.Mathlib.Numerals.{add-one}
use native.Mathlib.Omega.{arith}
use lib.Dec.{T}
use Rattle.base_laws.specs.Sums.{both, sum_below, all_below}
use Rattle.base_laws.proofs.TestLaws.{both_left, both_right, both_make, true_of_T, false_of_not_T, not_T_of_false}

-- ---- one number more, in the forms that a loop's proof asks
pub sum_below_zero : (f : ℕ → ℕ) → sum_below f 0 ≡ 0
unfolding sum_below
sum_below_zero f = refl

pub sum_below_suc : (f : ℕ → ℕ) (n : ℕ) → sum_below f (n + 1) ≡ sum_below f n + f n
unfolding sum_below
sum_below_suc f n = rw add-one

-- ---- sums
pub sum_cong : (f g : ℕ → ℕ) (n : ℕ) → ((k : ℕ) → k < n → f k ≡ g k) → sum_below f n ≡ sum_below g n
unfolding sum_below
sum_cong f g zero h = refl
sum_cong f g (suc n) h = ap₂ (λ (x y : ℕ). x + y) (sum_cong f g n (λ k l. h k (omega arith))) (h n (lt-suc_self n))

pub sum_split : (f : ℕ → ℕ) (a b : ℕ) → sum_below f (a + b) ≡ sum_below f a + sum_below (λ k. f (a + k)) b
unfolding sum_below
sum_split f a zero = ap (sum_below f) (add-zero a) ∙ sym (add-zero (sum_below f a))
sum_split f a (suc b) =
    let ih = sum_split f a b in
    ap (sum_below f) (add-suc a b) ∙ omega arith

-- one term more by one
pub sum_suc_of_term_suc : (f g : ℕ → ℕ) (n j : ℕ) → j < n → ((k : ℕ) → (k ≡ j → ⊥) → g k ≡ f k) → g j ≡ suc (f j) → sum_below g n ≡ suc (sum_below f n)
unfolding sum_below
sum_suc_of_term_suc f g zero j l other here = absurd (not-suc-le-zero l)
sum_suc_of_term_suc f g (suc n) j l other here = go (sum_suc_of_term_suc f g n j) (eq-or-lt_of_le (le_of_suc-le-suc l))
  where
    go : (j < n → ((k : ℕ) → (k ≡ j → ⊥) → g k ≡ f k) → g j ≡ suc (f j) → sum_below g n ≡ suc (sum_below f n)) → (j ≡ n) ⊎ (j < n)
        → sum_below g n + g n ≡ suc (sum_below f n + f n)
    go ih (inl e) =
        let s : sum_below g n ≡ sum_below f n = sum_cong g f n (λ k lk. other k (λ q. lt_irrefl n (subst (λ (m : ℕ). m < n) (q ∙ e) lk))) in
        let h : g n ≡ suc (f n) = subst (λ (m : ℕ). g m ≡ suc (f m)) e here in
        omega arith
    go ih (inr q) =
        let s = ih q other here in
        let h : g n ≡ f n = other n (λ r. lt_irrefl n (subst (λ (m : ℕ). m < n) (sym r) q)) in
        omega arith

pub sum_of_zeros : (f : ℕ → ℕ) (n : ℕ) → ((k : ℕ) → k < n → f k ≡ 0) → sum_below f n ≡ 0
unfolding sum_below
sum_of_zeros f zero h = refl
sum_of_zeros f (suc n) h = ap₂ (λ (x y : ℕ). x + y) (sum_of_zeros f n (λ k l. h k (omega arith))) (h n (lt-suc_self n))

-- terms that are each at most another's have a sum at most the other's
pub sum_le_of_terms_le : (f g : ℕ → ℕ) (n : ℕ) → ((k : ℕ) → k < n → f k ≤ g k) → sum_below f n ≤ sum_below g n
unfolding sum_below
sum_le_of_terms_le f g zero h = zero-le
sum_le_of_terms_le f g (suc n) h =
    let e = sum_le_of_terms_le f g n (λ k l. h k (omega arith)) in
    let t = h n (lt-suc_self n) in
    omega arith

pub sum_le_mul : (f : ℕ → ℕ) (m n : ℕ) → ((k : ℕ) → k < n → f k ≤ m) → sum_below f n ≤ n * m
unfolding sum_below
sum_le_mul f m zero h = zero-le
sum_le_mul f m (suc n) h =
    let e = sum_le_mul f m n (λ k l. h k (omega arith)) in
    let t = h n (lt-suc_self n) in
    omega arith

-- a term is at most the sum
pub term_le_sum : (f : ℕ → ℕ) (n k : ℕ) → k < n → f k ≤ sum_below f n
unfolding sum_below
term_le_sum f zero k l = absurd (not-suc-le-zero l)
term_le_sum f (suc n) k l =
    ⊎_elim (λ (e : k ≡ n). let q : f k ≡ f n = ap f e in omega arith)
    (λ (q : k < n). let r = term_le_sum f n k q in omega arith)
    (eq-or-lt_of_le (le_of_suc-le-suc l))

pub sum_scale : (c : ℕ) (f : ℕ → ℕ) (n : ℕ) → sum_below (λ k. c * f k) n ≡ c * sum_below f n
unfolding sum_below
sum_scale c f zero = sym (mul-zero c)
sum_scale c f (suc n) = let e = sum_scale c f n in omega arith

-- a sum that is not 0 has a term that is not 0
pub pos_term_of_pos_sum : (f : ℕ → ℕ) (n : ℕ) → 0 < sum_below f n → (j : ℕ) × (j < n) × (0 < f j)
unfolding sum_below
pos_term_of_pos_sum f zero h = absurd (let z : ⊥ = omega arith in z)
pos_term_of_pos_sum f (suc n) h = go (pos_term_of_pos_sum f n) (eq-zero-or-pos (f n))
  where
    go : (0 < sum_below f n → (j : ℕ) × (j < n) × (0 < f j)) → (f n ≡ 0) ⊎ (0 < f n) → (j : ℕ) × (j < suc n) × (0 < f j)
    go rest (inl e) = let r = rest (omega arith) in (r.0, omega arith, r.2)
    go rest (inr p) = (n, le_refl (suc n), p)

-- ---- tests
pub all_at : (p : ℕ → Bool) (n : ℕ) → T (all_below p n) → (k : ℕ) → k < n → T (p k)
unfolding all_below
all_at p zero t k l = absurd (not-suc-le-zero l)
all_at p (suc n) t k l =
    ⊎_elim (λ (e : k ≡ n). subst (λ (m : ℕ). T (p m)) (sym e) (both_right (all_below p n) (p n) t))
    (λ (q : k < n). all_at p n (both_left (all_below p n) (p n) t) k q)
    (eq-or-lt_of_le (le_of_suc-le-suc l))

pub all_of_each : (p : ℕ → Bool) (n : ℕ) → ((k : ℕ) → k < n → T (p k)) → T (all_below p n)
unfolding all_below
all_of_each p zero h = tt
all_of_each p (suc n) h = both_make (all_below p n) (p n) (all_of_each p n (λ k l. h k (omega arith))) (h n (lt-suc_self n))

pub all_cong : (p r : ℕ → Bool) (n : ℕ) → ((k : ℕ) → k < n → p k ≡ r k) → all_below p n ≡ all_below r n
unfolding all_below
all_cong p r zero h = refl
all_cong p r (suc n) h = ap₂ both (all_cong p r n (λ k l. h k (omega arith))) (h n (lt-suc_self n))

-- two tests of each number are one
pub all_both : (p r : ℕ → Bool) (n : ℕ) → all_below (λ k. both (p k) (r k)) n ≡ both (all_below p n) (all_below r n)
unfolding all_below
all_both p r zero = refl
all_both p r (suc n) = ap (λ (t : Bool). both t (both (p n) (r n))) (all_both p r n) ∙ cross (all_below p n) (all_below r n) (p n) (r n)
  where
    cross : (a b x y : Bool) → both (both a b) (both x y) ≡ both (both a x) (both b y)
    cross true true x y = refl
    cross true false true y = refl
    cross true false false y = refl
    cross false b x y = refl

-- how a loop that tests each number below n ends
pub all_false : (p : ℕ → Bool) (n k : ℕ) → k < n → p k ≡ false → false ≡ all_below p n
all_false p n k l e = sym (false_of_not_T (all_below p n) (λ t. not_T_of_false (p k) e (all_at p n t k l)))

pub all_true : (p : ℕ → Bool) (n : ℕ) → ((k : ℕ) → k < n → T (p k)) → true ≡ all_below p n
all_true p n h = sym (true_of_T (all_below p n) (all_of_each p n h))
