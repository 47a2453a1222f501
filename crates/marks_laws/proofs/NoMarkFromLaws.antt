-- Laws of "no mark at n or above": mark by mark, and number by number. Assumes nothing.
use mathlib.Core.Path.{◌≡◌, sym, ap, ◌∙◌}
use mathlib.Core.Bool.{not}
use mathlib.Core.List.{List}
use Prim.Native.Nat.{ℕ, zero, suc, ◌+◌, ◌-◌, ◌*◌, ◌/◌, ◌%◌, ◌^◌, ◌≤◌, ◌<◌}
use native.Mathlib.Decide.{dec_lt}
use native.Mathlib.Omega.{arith}
use borrow.Author.Tests.{eqb-true, lt-ltb, le-ltb, not-true}
use lib.ListN.{get_or}
use lib.Dec.{T, eqb, ltb}
use lib.Bits.{bit_or}
use Rattle.base_laws.specs.Sums.{either, sum_below}
use Rattle.base_laws.proofs.TestLaws.{T_of_true, true_of_T, equal_of_iff, either_left, either_right, either_right_of_left_false}
use Rattle.base_laws.proofs.SumLaws.{all_at, all_of_each, sum_of_zeros, sum_split}
use Rattle.base_laws.proofs.Counting.{sum_le_of_terms_le_one}
use Rattle.marks_rules.specs.Marks.{mark_bit, is_marked, live_count, no_mark_from, no_marks}
use Rattle.marks_laws.proofs.BitLaws.{shifted_zero_of_clear_bits, clear_bits_of_shifted_zero, left_zero_of_or_zero, right_zero_of_or_zero}
use Rattle.marks_laws.proofs.MarkLaws.{mark_bit_lt_two, mark_bit_zero_of_no_mark, no_mark_of_mark_bit_zero, bit_of_word_is_mark_bit}
use Rattle.marks_laws.proofs.MarkLaws.{mark_bit_of_no_marks}

module _ (l : List ℕ) (n : ℕ) where
  pub mark_clear_of_no_mark_from : T (no_mark_from l n) → (j : ℕ) → n ≤ j → j < 256 → mark_bit l j ≡ 0
  unfolding no_mark_from
  mark_clear_of_no_mark_from t j h below =
      let u : T (not (is_marked l j)) = either_right_of_left_false (ltb j n) (not (is_marked l j))
      (all_at (λ k. either (ltb k n) (not (is_marked l k))) 256 t j below) (le-ltb j n h) in
      mark_bit_zero_of_no_mark l j (not-true (is_marked l j) (true_of_T (not (is_marked l j)) u))

  pub no_mark_from_of_marks_clear : ((j : ℕ) → n ≤ j → j < 256 → mark_bit l j ≡ 0) → T (no_mark_from l n)
  unfolding no_mark_from
  no_mark_from_of_marks_clear z = all_of_each (λ k. either (ltb k n) (not (is_marked l k))) 256 (λ k below. go k below (dec_lt k n))
    where
      go : (k : ℕ) → k < 256 → Dec (k < n) → T (either (ltb k n) (not (is_marked l k)))
      go k below (yes p) = either_left (ltb k n) (not (is_marked l k)) (T_of_true (ltb k n) (lt-ltb k n p))
      go k below (no f) = either_right (ltb k n) (not (is_marked l k))
          (T_of_true (not (is_marked l k)) (ap not (no_mark_of_mark_bit_zero l k (z k (omega arith) below))))

  -- with no mark at n or above, the count is that of the marks below n, so at most n
  module _ (small : n ≤ 256) (none : T (no_mark_from l n)) where
    pub live_count_is_sum_below : live_count l ≡ sum_below (mark_bit l) n
    unfolding live_count
    live_count_is_sum_below =
        let z : sum_below (λ k. mark_bit l (n + k)) (256 - n) ≡ 0 =
        sum_of_zeros (λ k. mark_bit l (n + k)) (256 - n) (λ k h. mark_clear_of_no_mark_from none (n + k) (omega arith) (omega arith)) in
        let s = sum_split (mark_bit l) n (256 - n) in
        let e : sum_below (mark_bit l) 256 ≡ sum_below (mark_bit l) (n + (256 - n)) = ap (sum_below (mark_bit l)) (omega arith) in
        omega arith

    pub live_count_le_of_no_mark_from : live_count l ≤ n
    live_count_le_of_no_mark_from = omega (arith, live_count_is_sum_below, sum_le_of_terms_le_one (mark_bit l) n (λ k h. omega (arith, mark_bit_lt_two l k)))

  -- ---- number by number: what is left of number i, moved down by as much as n lies past its first block
  module _ (fits : (i : ℕ) → get_or l i 0 < 2 ^ 64) where
    shifted_zero_of_no_mark_from : T (no_mark_from l n) → (i : ℕ) → i < 4 → get_or l i 0 / 2 ^ (n - i * 64) ≡ 0
    shifted_zero_of_no_mark_from t i h = shifted_zero_of_clear_bits (get_or l i 0) (n - i * 64) (fits i) (λ k h₁ h₂. bit_of_word_is_mark_bit l i k h₂
        ∙ mark_clear_of_no_mark_from t (i * 64 + k) (omega arith) (omega arith))

    no_mark_from_of_shifted_zero : ((i : ℕ) → i < 4 → get_or l i 0 / 2 ^ (n - i * 64) ≡ 0) → T (no_mark_from l n)
    no_mark_from_of_shifted_zero z =
        no_mark_from_of_marks_clear (λ j h below. ap (mark_bit l) (split j) ∙ sym (bit_of_word_is_mark_bit l (j / 64) (j % 64) (omega arith))
        ∙ clear_bits_of_shifted_zero (get_or l (j / 64) 0) (n - j / 64 * 64) (j % 64) (z (j / 64) (omega arith)) (omega arith))
      where
        split : (j : ℕ) → j ≡ j / 64 * 64 + j % 64
        split j = omega arith

    pub no_mark_from_is_shifted_or_zero : (a b c d : ℕ)
        → a ≡ get_or l 0 0 / 2 ^ (n - 0) → b ≡ get_or l 1 0 / 2 ^ (n - 64) → c ≡ get_or l 2 0 / 2 ^ (n - 128) → d ≡ get_or l 3 0 / 2 ^ (n - 192)
        → eqb (bit_or (bit_or (bit_or a b) c) d) 0 ≡ no_mark_from l n
    no_mark_from_is_shifted_or_zero a b c d ea eb ec ed = equal_of_iff (eqb (bit_or (bit_or (bit_or a b) c) d) 0) (no_mark_from l n) there back
      where
        there : T (eqb (bit_or (bit_or (bit_or a b) c) d) 0) → T (no_mark_from l n)
        there t = no_mark_from_of_shifted_zero word
          where
            whole : bit_or (bit_or (bit_or a b) c) d ≡ 0
            whole = eqb-true (bit_or (bit_or (bit_or a b) c) d) 0 (true_of_T _ t)

            three : bit_or (bit_or a b) c ≡ 0
            three = left_zero_of_or_zero (bit_or (bit_or a b) c) d whole

            two : bit_or a b ≡ 0
            two = left_zero_of_or_zero (bit_or a b) c three

            word : (i : ℕ) → i < 4 → get_or l i 0 / 2 ^ (n - i * 64) ≡ 0
            word zero h = sym ea ∙ left_zero_of_or_zero a b two
            word (suc zero) h = sym eb ∙ right_zero_of_or_zero a b two
            word (suc (suc zero)) h = sym ec ∙ right_zero_of_or_zero (bit_or a b) c three
            word (suc (suc (suc zero))) h = sym ed ∙ right_zero_of_or_zero (bit_or (bit_or a b) c) d whole
            word (suc (suc (suc (suc i)))) h = absurd (omega arith)

        back : T (no_mark_from l n) → T (eqb (bit_or (bit_or (bit_or a b) c) d) 0)
        back t =
            let za : a ≡ 0 = ea ∙ shifted_zero_of_no_mark_from t 0 (omega arith) in
            let zb : b ≡ 0 = eb ∙ shifted_zero_of_no_mark_from t 1 (omega arith) in
            let zc : c ≡ 0 = ec ∙ shifted_zero_of_no_mark_from t 2 (omega arith) in
            let zd : d ≡ 0 = ed ∙ shifted_zero_of_no_mark_from t 3 (omega arith) in
            rw (za, zb, zc, zd) tt

-- ---- no marks at all
pub no_mark_from_of_no_marks : (n : ℕ) → T (no_mark_from no_marks n)
no_mark_from_of_no_marks n = no_mark_from_of_marks_clear no_marks n (λ j h below. mark_bit_of_no_marks j)
