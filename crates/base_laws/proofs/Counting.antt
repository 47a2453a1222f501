-- Laws of sums in two directions, and of how often a number is met. Assumes nothing.
use mathlib.Core.Path.{◌≡◌, refl, sym, ap, ◌∙◌, subst}
use mathlib.Core.Logic.{◌⊎◌, inl, inr, ⊎_elim}
use Prim.Native.Nat.{ℕ, zero, suc, ◌+◌, ◌-◌, ◌≤◌, ◌<◌, zero-le}
use native.Mathlib.Nat.{eq-or-lt_of_le, le_of_suc-le-suc, not-suc-le-zero, lt-suc_self, lt_irrefl}
use native.Mathlib.Omega.{arith}
use lib.Dec.{eqb}
use Rattle.base_laws.specs.Sums.{one, sum_below}
use Rattle.base_laws.proofs.TestLaws.{one_of_equal, one_of_different}
use Rattle.base_laws.proofs.SumLaws.{sum_of_zeros, sum_split}

pub sum_add : (f g : ℕ → ℕ) (n : ℕ) → sum_below (λ k. f k + g k) n ≡ sum_below f n + sum_below g n
unfolding sum_below
sum_add f g zero = refl
sum_add f g (suc n) = let e = sum_add f g n in omega arith

pub sum_swap : (h : ℕ → ℕ → ℕ) (n m : ℕ) → sum_below (λ j. sum_below (h j) m) n ≡ sum_below (λ p. sum_below (λ j. h j p) n) m
unfolding sum_below
sum_swap h zero m = sym (sum_of_zeros (λ p. 0) m (λ k l. refl))
sum_swap h (suc n) m = ap (λ (x : ℕ). x + sum_below (h n) m) (sum_swap h n m) ∙ sym (sum_add (λ p. sum_below (λ j. h j p) n) (h n) m)

pub sum_of_ones : (f : ℕ → ℕ) (n : ℕ) → ((k : ℕ) → k < n → f k ≡ 1) → sum_below f n ≡ n
unfolding sum_below
sum_of_ones f zero h = refl
sum_of_ones f (suc n) h =
    let e = sum_of_ones f n (λ k l. h k (omega arith)) in
    let g = h n (lt-suc_self n) in
    omega arith

pub sum_le_of_terms_le_one : (f : ℕ → ℕ) (n : ℕ) → ((k : ℕ) → k < n → f k ≤ 1) → sum_below f n ≤ n
unfolding sum_below
sum_le_of_terms_le_one f zero h = zero-le
sum_le_of_terms_le_one f (suc n) h =
    let e = sum_le_of_terms_le_one f n (λ k l. h k (omega arith)) in
    let g = h n (lt-suc_self n) in
    omega arith

-- n terms of at most 1 whose sum is n are all 1
pub terms_one_of_full_sum : (f : ℕ → ℕ) (n : ℕ) → ((k : ℕ) → k < n → f k ≤ 1) → sum_below f n ≡ n → (k : ℕ) → k < n → f k ≡ 1
unfolding sum_below
terms_one_of_full_sum f zero h e k l = absurd (not-suc-le-zero l)
terms_one_of_full_sum f (suc n) h e k l =
    let b : sum_below f n ≤ n = sum_le_of_terms_le_one f n (λ i li. h i (omega arith)) in
    let c : f n ≤ 1 = h n (lt-suc_self n) in
    ⊎_elim (λ (q : k ≡ n). ap f q ∙ omega arith) (λ (q : k < n). terms_one_of_full_sum f n (λ i li. h i (omega arith)) (omega arith) k q)
    (eq-or-lt_of_le (le_of_suc-le-suc l))

pub sum_mono : (f : ℕ → ℕ) (a d : ℕ) → sum_below f a ≤ sum_below f (a + d)
sum_mono f a d = omega (arith, sum_split f a d)

-- one number is met once among the numbers below n, or not at all
pub indicator_sum_inside : (v n : ℕ) → v < n → sum_below (λ j. one (eqb v j)) n ≡ 1
unfolding sum_below
indicator_sum_inside v zero l = absurd (not-suc-le-zero l)
indicator_sum_inside v (suc n) l = go (indicator_sum_inside v n) (eq-or-lt_of_le (le_of_suc-le-suc l))
  where
    go : (v < n → sum_below (λ j. one (eqb v j)) n ≡ 1) → (v ≡ n) ⊎ (v < n) → sum_below (λ j. one (eqb v j)) n + one (eqb v n) ≡ 1
    go ih (inl e) =
        let z : sum_below (λ j. one (eqb v j)) n ≡ 0 =
        sum_of_zeros (λ j. one (eqb v j)) n (λ k lk. one_of_different v k (λ q. lt_irrefl n (subst (λ (x : ℕ). x < n) (sym q ∙ e) lk))) in
        let o : one (eqb v n) ≡ 1 = ap (λ (x : ℕ). one (eqb v x)) (sym e) ∙ one_of_equal v in
        omega arith
    go ih (inr q) =
        let s = ih q in
        let o : one (eqb v n) ≡ 0 = one_of_different v n (λ r. lt_irrefl n (subst (λ (x : ℕ). x < n) r q)) in
        omega arith

pub indicator_sum_outside : (v n : ℕ) → n ≤ v → sum_below (λ j. one (eqb v j)) n ≡ 0
indicator_sum_outside v n l = sum_of_zeros (λ j. one (eqb v j)) n (λ k lk. one_of_different v k (λ q. lt_irrefl k (subst (λ (x : ℕ). k < x) q (omega arith))))
