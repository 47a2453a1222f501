-- Which numbers a function takes below n, and how often: those above 0 are 1 upwards, each once, exactly if no two of them are equal and none is
-- above their number. Assumes nothing.
use mathlib.Core.Path.{◌≡◌, refl, sym, ap, ◌∙◌}
use mathlib.Core.Bool.{Bool, true, false}
use mathlib.Core.Logic.{⊎_elim}
use Prim.Native.Nat.{ℕ, zero, suc, ◌+◌, ◌≤◌, ◌<◌, zero-le}
use native.Mathlib.Nat.{eq-or-lt_of_le, le_of_suc-le-suc, not-suc-le-zero, lt-suc_self}
use native.Mathlib.Decide.{ℕ_discrete, dec_lt}
use native.Mathlib.Omega.{arith}
use borrow.Author.Tests.{eq-eqb, ne_eqb, lt-ltb, le-ltb}
use lib.Dec.{T, eqb, ltb, eqb→eq}
use Rattle.base_laws.specs.Sums.{one, sum_below}
use Rattle.base_laws.proofs.TestLaws.{T_of_true, true_of_T}
use Rattle.base_laws.proofs.Inequalities.{le_of_not_below}
use Rattle.base_laws.proofs.SumLaws.{sum_cong, sum_suc_of_term_suc, term_le_sum, sum_of_zeros}
use Rattle.base_laws.proofs.Counting.{sum_add, sum_of_ones, terms_one_of_full_sum}

-- ---- terms and their sum
-- two terms together are at most the sum
pub two_terms_le_sum : (f : ℕ → ℕ) (n j k : ℕ) → j < k → k < n → f j + f k ≤ sum_below f n
unfolding sum_below
two_terms_le_sum f zero j k h l = absurd (not-suc-le-zero l)
two_terms_le_sum f (suc n) j k h l =
    ⊎_elim (λ (e : k ≡ n). let a = term_le_sum f n j (omega arith) in omega (arith, ap f e))
    (λ (q : k < n). let a = two_terms_le_sum f n j k h q in omega arith)
    (eq-or-lt_of_le (le_of_suc-le-suc l))

-- two numbers that pass a test are one where at most one passes
pub same_of_sum_le_one : (p : ℕ → Bool) (n j k : ℕ) → sum_below (λ i. one (p i)) n ≤ 1 → j < n → k < n → T (p j) → T (p k) → j ≡ k
same_of_sum_le_one p n j k few lj lk tj tk = go (dec_lt j k) (dec_lt k j)
  where
    a : one (p j) ≡ 1
    a = ap one (true_of_T (p j) tj)

    b : one (p k) ≡ 1
    b = ap one (true_of_T (p k) tk)

    go : Dec (j < k) → Dec (k < j) → j ≡ k
    go (yes h) d = absurd (let z : ⊥ = omega (arith, a, b, two_terms_le_sum (λ i. one (p i)) n j k h lk) in z)
    go (no f) (yes h) = absurd (let z : ⊥ = omega (arith, a, b, two_terms_le_sum (λ i. one (p i)) n k j h lj) in z)
    go (no f) (no g) = omega arith

-- and at most one passes where any two that pass are one
pub sum_le_one_of_same : (p : ℕ → Bool) (n : ℕ) → ((j k : ℕ) → j < n → k < n → T (p j) → T (p k) → j ≡ k) → sum_below (λ i. one (p i)) n ≤ 1
unfolding sum_below
sum_le_one_of_same p zero same = zero-le
sum_le_one_of_same p (suc n) same = go (sum_le_one_of_same p n (λ j k lj lk. same j k (omega arith) (omega arith))) (p n) refl
  where
    go : sum_below (λ i. one (p i)) n ≤ 1 → (t : Bool) → p n ≡ t → sum_below (λ i. one (p i)) n + one (p n) ≤ 1
    go few true e =
        let none : (k : ℕ) → k < n → one (p k) ≡ 0 = λ k l. other k l (p k) refl in
        omega (arith, sum_of_zeros (λ i. one (p i)) n none, ap one e)
      where
        other : (k : ℕ) → k < n → (t : Bool) → p k ≡ t → one (p k) ≡ 0
        other k l true q = absurd (let z : ⊥ = omega (arith, same k n (omega arith) (lt-suc_self n) (T_of_true _ q) (T_of_true _ e)) in z)
        other k l false q = ap one q
    go few false e = omega (arith, ap one e)

-- ---- how often f is v below n, and how often it is above v
abbrev pub count_at : (ℕ → ℕ) → ℕ → ℕ → ℕ
count_at f n v = sum_below (λ k. one (eqb (f k) v)) n

abbrev pub count_above : (ℕ → ℕ) → ℕ → ℕ → ℕ
count_above f n v = sum_below (λ k. one (ltb v (f k))) n

-- a number above v is v + 1 or above that
at_next_or_above : (v x : ℕ) → one (eqb x (suc v)) + one (ltb (suc v) x) ≡ one (ltb v x)
at_next_or_above v x = go (ℕ_discrete x (suc v)) (dec_lt v x)
  where
    go : Dec (x ≡ suc v) → Dec (v < x) → one (eqb x (suc v)) + one (ltb (suc v) x) ≡ one (ltb v x)
    go (yes e) d = simp (eq-eqb x (suc v) e, le-ltb (suc v) x (omega arith), lt-ltb v x (omega arith))
    go (no f) (yes h) = simp (ne_eqb x (suc v) f, lt-ltb (suc v) x (omega arith), lt-ltb v x h)
    go (no f) (no g) = simp (ne_eqb x (suc v) f, le-ltb (suc v) x (omega arith), le-ltb v x (omega arith))

module _ (f : ℕ → ℕ) (n : ℕ) where
  count_above_splits : (v : ℕ) → count_at f n (suc v) + count_above f n (suc v) ≡ count_above f n v
  count_above_splits v =
      sym (sum_add (λ k. one (eqb (f k) (suc v))) (λ k. one (ltb (suc v) (f k))) n)
      ∙ sum_cong (λ k. one (eqb (f k) (suc v)) + one (ltb (suc v) (f k))) (λ k. one (ltb v (f k))) n (λ k l. at_next_or_above v (f k))

  -- those above 0 are those at 1, .., v and those above v
  count_above_zero_splits : (v : ℕ) → sum_below (λ r. count_at f n (suc r)) v + count_above f n v ≡ count_above f n 0
  unfolding sum_below
  count_above_zero_splits zero = omega arith
  count_above_zero_splits (suc v) = let e = count_above_zero_splits v in let h = count_above_splits v in omega arith

  -- each of 1 to their number once: then none is above their number, and no two are equal
  pub le_count_of_each_once : ((r : ℕ) → r < count_above f n 0 → count_at f n (suc r) ≡ 1) → (k : ℕ) → k < n → f k ≤ count_above f n 0
  le_count_of_each_once once k l =
      le_of_not_below
      (λ h. let z : ⊥ = omega (arith, none_above, term_le_sum (λ i. one (ltb (count_above f n 0) (f i))) n k l, ap one (lt-ltb (count_above f n 0) (f k) h)) in
      z)
    where
      none_above : count_above f n (count_above f n 0) ≡ 0
      none_above = omega (arith, count_above_zero_splits (count_above f n 0), sum_of_ones (λ r. count_at f n (suc r)) (count_above f n 0) once)

  pub same_of_each_once : ((r : ℕ) → r < count_above f n 0 → count_at f n (suc r) ≡ 1) → (j k : ℕ) → j < n → k < n → 0 < f j → f j ≡ f k → j ≡ k
  same_of_each_once once j k lj lk pos e = go (f j) refl
    where
      go : (v : ℕ) → f j ≡ v → j ≡ k
      go zero q = absurd (let z : ⊥ = omega arith in z)
      go (suc r) q =
          same_of_sum_le_one (λ i. eqb (f i) (suc r)) n j k (omega (arith, once r (omega (arith, le_count_of_each_once once j lj)))) lj lk
          (T_of_true _ (eq-eqb (f j) (suc r) q))
          (T_of_true _ (eq-eqb (f k) (suc r) (sym e ∙ q)))

  -- and the other way
  pub each_once_of_distinct : ((k : ℕ) → k < n → f k ≤ count_above f n 0) → ((j k : ℕ) → j < n → k < n → 0 < f j → f j ≡ f k → j ≡ k)
      → (r : ℕ) → r < count_above f n 0 → count_at f n (suc r) ≡ 1
  each_once_of_distinct bounded distinct =
      terms_one_of_full_sum (λ r. count_at f n (suc r)) (count_above f n 0) (λ r l. at_most_once r)
      (omega (arith, count_above_zero_splits (count_above f n 0), none_above))
    where
      none_above : count_above f n (count_above f n 0) ≡ 0
      none_above = sum_of_zeros (λ k. one (ltb (count_above f n 0) (f k))) n (λ k l. ap one (le-ltb (count_above f n 0) (f k) (bounded k l)))

      at_most_once : (r : ℕ) → count_at f n (suc r) ≤ 1
      at_most_once r =
          sum_le_one_of_same (λ k. eqb (f k) (suc r)) n
          (λ j k lj lk tj tk. let a = eqb→eq (f j) (suc r) tj in let b = eqb→eq (f k) (suc r) tk in distinct j k lj lk (omega arith) (a ∙ sym b))

-- ---- f changed to g, where one number k moves and the others keep their order
module _ (f g : ℕ → ℕ) (n k : ℕ) where
  -- no two above 0 were equal, and none are: the others keep their order, and none is as k is
  pub same_of_order_kept : ((i j : ℕ) → i < n → j < n → 0 < f i → f i ≡ f j → i ≡ j) → ((i : ℕ) → (i ≡ k → ⊥) → 0 < g i → 0 < f i)
      → ((i j : ℕ) → i < n → j < n → (i ≡ k → ⊥) → (j ≡ k → ⊥) → 0 < f i → f i < f j → g i < g j) → ((i : ℕ) → i < n → (i ≡ k → ⊥) → 0 < g i → g i ≡ g k → ⊥)
      → (i j : ℕ) → i < n → j < n → 0 < g i → g i ≡ g j → i ≡ j
  same_of_order_kept distinct above order apart i j li lj pos e = go (ℕ_discrete i k) (ℕ_discrete j k)
    where
      others : (i ≡ k → ⊥) → (j ≡ k → ⊥) → 0 < f i → 0 < f j → Dec (f i < f j) → Dec (f j < f i) → i ≡ j
      others a b pi pj (yes h) d = absurd (let z : ⊥ = omega (arith, order i j li lj a b pi h) in z)
      others a b pi pj (no c) (yes h) = absurd (let z : ⊥ = omega (arith, order j i lj li b a pj h) in z)
      others a b pi pj (no c) (no d) = distinct i j li lj pi (omega arith)

      go : Dec (i ≡ k) → Dec (j ≡ k) → i ≡ j
      go (yes p) (yes q) = p ∙ sym q
      go (yes p) (no b) = absurd (apart j lj b (omega arith) (sym e ∙ ap g p))
      go (no a) (yes q) = absurd (apart i li a pos (e ∙ ap g q))
      go (no a) (no b) = others a b (above i a pos) (above j b (omega arith)) (dec_lt (f i) (f j)) (dec_lt (f j) (f i))

  module _ (others : (i : ℕ) → (i ≡ k → ⊥) → ltb 0 (g i) ≡ ltb 0 (f i)) where
    -- as many are above 0 where k is still above 0, or still 0
    pub count_kept : ltb 0 (g k) ≡ ltb 0 (f k) → count_above g n 0 ≡ count_above f n 0
    count_kept here = sum_cong (λ i. one (ltb 0 (g i))) (λ i. one (ltb 0 (f i))) n (λ i l. ap one (go i (ℕ_discrete i k)))
      where
        go : (i : ℕ) → Dec (i ≡ k) → ltb 0 (g i) ≡ ltb 0 (f i)
        go i (yes q) = ap (λ (m : ℕ). ltb 0 (g m)) q ∙ here ∙ ap (λ (m : ℕ). ltb 0 (f m)) (sym q)
        go i (no a) = others i a

    -- one more where k was 0 and is not, one less where it was not and is
    pub count_one_more : k < n → f k ≡ 0 → 0 < g k → count_above g n 0 ≡ suc (count_above f n 0)
    count_one_more l was is =
        sum_suc_of_term_suc (λ i. one (ltb 0 (f i))) (λ i. one (ltb 0 (g i))) n k l (λ i a. ap one (others i a))
        (ap one (lt-ltb 0 (g k) is) ∙ ap (λ (t : Bool). suc (one t)) (sym (le-ltb 0 (f k) (omega arith))))

    pub count_one_less : k < n → 0 < f k → g k ≡ 0 → count_above f n 0 ≡ suc (count_above g n 0)
    count_one_less l was is =
        sum_suc_of_term_suc (λ i. one (ltb 0 (g i))) (λ i. one (ltb 0 (f i))) n k l (λ i a. ap one (sym (others i a)))
        (ap one (lt-ltb 0 (f k) was) ∙ ap (λ (t : Bool). suc (one t)) (sym (le-ltb 0 (g k) (omega arith))))
