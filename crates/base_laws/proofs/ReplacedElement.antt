-- A list with one element replaced: what becomes of a sum and of a test over its elements. Assumes nothing.
use mathlib.Core.Path.{◌≡◌, sym, ap, ◌∙◌, subst}
use mathlib.Core.Logic.{◌⊎◌, inl, inr}
use mathlib.Core.List.{List, map}
use Prim.Native.Nat.{ℕ, zero, suc, ◌+◌, ◌≤◌, ◌<◌}
use native.Mathlib.Nat.{eq-or-lt_of_le, le_of_suc-le-suc, not-suc-le-zero}
use native.Mathlib.Omega.{arith}
use lib.ListN.{length, get_or, set, length-map}
use lib.Seq.{get_or-set_same, get_or-set_other}
use Rattle.base_laws.specs.Sums.{sum_below}
use Rattle.base_laws.proofs.SumLaws.{sum_cong}

module _ {A : Type 0} (l : List A) (d : A) (i : ℕ) (a : A) where
  -- a sum past the replaced place changes by what is put there and what was there; the terms may go by the number too
  pub sum_set_indexed : (f : ℕ → A → ℕ) (k : ℕ) → i < k → i < length l → sum_below (λ j. f j (get_or (set l i a) j d)) k + f i (get_or l i d)
      ≡ sum_below (λ j. f j (get_or l j d)) k + f i a
  unfolding sum_below
  sum_set_indexed f zero h within = absurd (not-suc-le-zero h)
  sum_set_indexed f (suc k) h within = go (λ q. sum_set_indexed f k q within) (eq-or-lt_of_le (le_of_suc-le-suc h))
    where
      below : (k : ℕ) → k ≤ i → sum_below (λ j. f j (get_or (set l i a) j d)) k ≡ sum_below (λ j. f j (get_or l j d)) k
      below k h = sum_cong (λ j. f j (get_or (set l i a) j d)) (λ j. f j (get_or l j d)) k
          (λ j lj. ap (f j) (get_or-set_other l i j a d (λ (q : j ≡ i). omega arith)))

      go : (i < k → sum_below (λ j. f j (get_or (set l i a) j d)) k + f i (get_or l i d) ≡ sum_below (λ j. f j (get_or l j d)) k + f i a) → (i ≡ k) ⊎ (i < k)
          → sum_below (λ j. f j (get_or (set l i a) j d)) k + f k (get_or (set l i a) k d) + f i (get_or l i d) ≡ sum_below (λ j. f j (get_or l j d)) k + f k
          (get_or l k d) + f i a
      go rest (inl q) =
          let e : get_or (set l i a) k d ≡ a = subst (λ (j : ℕ). get_or (set l i a) j d ≡ a) q (get_or-set_same l i a d within) in
          omega (arith, below k (omega arith), ap (f k) e, ap (λ (j : ℕ). f j (get_or l j d)) q, ap (λ (j : ℕ). f j a) q)
      go rest (inr q) = omega (arith, rest q, ap (f k) (get_or-set_other l i k a d (λ (z : k ≡ i). omega arith)))

  pub sum_set : (f : A → ℕ) (k : ℕ) → i < k → i < length l → sum_below (λ j. f (get_or (set l i a) j d)) k + f (get_or l i d)
      ≡ sum_below (λ j. f (get_or l j d)) k + f a
  sum_set f = sum_set_indexed (λ j. f)

-- the length of a list of structs, from that of their values
pub length_of_length_map : {A B : Type 0} (f : A → B) (l : List A) (n : ℕ) → length (map f l) ≡ n → length l ≡ n
length_of_length_map f l n e = sym (length-map l f) ∙ e
