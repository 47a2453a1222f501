-- Laws of the marks: one set or cleared changes that mark alone, and the count by one. Assumes nothing.
use mathlib.Core.Path.{◌≡◌, refl, sym, ap, ap₂, ◌∙◌}
use mathlib.Core.Bool.{true, false}
use mathlib.Core.List.{List, []}
use Prim.Native.Nat.{ℕ, zero, suc, ◌+◌, ◌-◌, ◌*◌, ◌/◌, ◌%◌, ◌^◌, ◌≤◌, ◌<◌, zero-le}
use native.Mathlib.Decide.{ℕ_discrete, dec_lt}
use native.Mathlib.Omega.{arith}
use borrow.Author.Tests.{eq-eqb, ne_eqb, eqb-true, eqb-false}
use lib.ListN.{length, get_or, set, length-set, get_or-eq_default}
use lib.Seq.{get_or-set_same, get_or-set_other, set_out}
use lib.Dec.{eqb}
use lib.Bits.{bit_or, bit_and, or_zero_r, and_zero_r}
use lib.Count.{ones}
use Rattle.base_laws.specs.Sums.{one, sum_below}
use Rattle.base_laws.proofs.TestLaws.{one_of_equal, one_of_different}
use Rattle.base_laws.proofs.SumLaws.{sum_cong, sum_split, sum_suc_of_term_suc, sum_of_zeros, term_le_sum}
use Rattle.base_laws.proofs.Counting.{sum_le_of_terms_le_one}
use Rattle.marks_rules.specs.Marks.{bit, mark_bit, is_marked, with_mark, without_mark, live_count, no_marks}
use Rattle.marks_laws.proofs.BitLaws.{bit_lt_two, bit_or_lem, bit_and_lem, bit_pow, bit_of_all_but_one, bit_of_zero, ones_is_sum_of_bits}

-- ---- one mark
pub mark_bit_lt_two : (l : List ℕ) (j : ℕ) → mark_bit l j < 2
unfolding mark_bit
mark_bit_lt_two l j = bit_lt_two (get_or l (j / 64) 0) (j % 64)

pub mark_bit_one_of_mark : (l : List ℕ) (j : ℕ) → is_marked l j ≡ true → mark_bit l j ≡ 1
unfolding is_marked
mark_bit_one_of_mark l j e = eqb-true (mark_bit l j) 1 e

pub mark_bit_zero_of_no_mark : (l : List ℕ) (j : ℕ) → is_marked l j ≡ false → mark_bit l j ≡ 0
unfolding is_marked
mark_bit_zero_of_no_mark l j e = go (eqb-false (mark_bit l j) 1 e)
  where
    go : (mark_bit l j ≡ 1 → ⊥) → mark_bit l j ≡ 0
    go f = omega (arith, mark_bit_lt_two l j)

pub mark_of_mark_bit_one : (l : List ℕ) (j : ℕ) → mark_bit l j ≡ 1 → is_marked l j ≡ true
unfolding is_marked
mark_of_mark_bit_one l j e = eq-eqb (mark_bit l j) 1 e

pub no_mark_of_mark_bit_zero : (l : List ℕ) (j : ℕ) → mark_bit l j ≡ 0 → is_marked l j ≡ false
unfolding is_marked
no_mark_of_mark_bit_zero l j e = ne_eqb (mark_bit l j) 1 (λ (q : mark_bit l j ≡ 1). omega arith)

-- past the last number no mark is set
pub mark_bit_past_the_end : (l : List ℕ) (j : ℕ) → length l ≤ j / 64 → mark_bit l j ≡ 0
unfolding mark_bit
mark_bit_past_the_end l j h = ap (λ (x : ℕ). bit x (j % 64)) (get_or-eq_default l 0 {n = j / 64} h) ∙ bit_of_zero (j % 64)

pub mark_bit_of_empty_list : (j : ℕ) → mark_bit [] j ≡ 0
mark_bit_of_empty_list j = mark_bit_past_the_end [] j zero-le

-- ---- lengths
pub length_with_mark : (l : List ℕ) (j : ℕ) → length (with_mark l j) ≡ length l
unfolding with_mark
length_with_mark l j = length-set l (j / 64) (bit_or (get_or l (j / 64) 0) (2 ^ (j % 64)))

pub length_without_mark : (l : List ℕ) (j : ℕ) → length (without_mark l j) ≡ length l
unfolding without_mark
length_without_mark l j = length-set l (j / 64) (bit_and (get_or l (j / 64) 0) (2 ^ 64 - 1 - 2 ^ (j % 64)))

-- ---- one mark set or cleared
pub with_mark_past_256 : (l : List ℕ) (j : ℕ) → length l ≡ 4 → 256 ≤ j → with_mark l j ≡ l
unfolding with_mark
with_mark_past_256 l j long h = set_out l (j / 64) (bit_or (get_or l (j / 64) 0) (2 ^ (j % 64))) (omega arith)

pub without_mark_past_256 : (l : List ℕ) (j : ℕ) → length l ≡ 4 → 256 ≤ j → without_mark l j ≡ l
unfolding without_mark
without_mark_past_256 l j long h = set_out l (j / 64) (bit_and (get_or l (j / 64) 0) (2 ^ 64 - 1 - 2 ^ (j % 64))) (omega arith)

-- bit k of word m, after word i became v, is as it was where v has that bit of word i
word_kept : (l : List ℕ) (i v m k : ℕ) → (m ≡ i → bit v k ≡ bit (get_or l i 0) k) → bit (get_or (set l i v) m 0) k ≡ bit (get_or l m 0) k
word_kept l i v m k same = go (ℕ_discrete m i) (dec_lt i (length l))
  where
    go : Dec (m ≡ i) → Dec (i < length l) → bit (get_or (set l i v) m 0) k ≡ bit (get_or l m 0) k
    go (yes e) (yes h) =
        ap (λ (n : ℕ). bit (get_or (set l i v) n 0) k) e
        ∙ ap (λ (x : ℕ). bit x k) (get_or-set_same l i v 0 h)
        ∙ same e
        ∙ ap (λ (n : ℕ). bit (get_or l n 0) k) (sym e)
    go (yes e) (no f) = ap (λ (x : List ℕ). bit (get_or x m 0) k) (set_out l i v (omega arith))
    go (no f) _ = ap (λ (x : ℕ). bit x k) (get_or-set_other l i m v 0 f)

or_one : (x : ℕ) → x < 2 → bit_or x 1 ≡ 1
or_one zero h = refl
or_one (suc zero) h = refl
or_one (suc (suc x)) h = absurd (omega arith)

and_one : (x : ℕ) → x < 2 → bit_and x 1 ≡ x
and_one zero h = refl
and_one (suc zero) h = refl
and_one (suc (suc x)) h = absurd (omega arith)

module _ (l : List ℕ) (j k : ℕ) (other : k ≡ j → ⊥) where
  other_bit : k / 64 ≡ j / 64 → one (eqb (j % 64) (k % 64)) ≡ 0
  other_bit e = one_of_different (j % 64) (k % 64) (λ (q : j % 64 ≡ k % 64). other (omega arith))

  pub with_mark_other : mark_bit (with_mark l j) k ≡ mark_bit l k
  unfolding mark_bit with_mark
  with_mark_other =
      let w : ℕ = get_or l (j / 64) 0 in
      word_kept l (j / 64) (bit_or w (2 ^ (j % 64))) (k / 64) (k % 64) (λ (e : k / 64 ≡ j / 64).
      bit_or_lem w (2 ^ (j % 64)) (k % 64)
      ∙ ap (bit_or (bit w (k % 64))) (bit_pow (j % 64) (k % 64) (omega arith) (omega arith) ∙ other_bit e)
      ∙ or_zero_r (bit w (k % 64)))

  pub without_mark_other : mark_bit (without_mark l j) k ≡ mark_bit l k
  unfolding mark_bit without_mark
  without_mark_other =
      let w : ℕ = get_or l (j / 64) 0 in
      let m : ℕ = 2 ^ 64 - 1 - 2 ^ (j % 64) in
      word_kept l (j / 64) (bit_and w m) (k / 64) (k % 64) (λ (e : k / 64 ≡ j / 64).
      bit_and_lem w m (k % 64)
      ∙ ap (bit_and (bit w (k % 64))) (bit_of_all_but_one (j % 64) (k % 64) (omega arith) (omega arith) ∙ ap (λ (x : ℕ). 1 - x) (other_bit e))
      ∙ and_one (bit w (k % 64)) (bit_lt_two w (k % 64)))

-- also of a mark past the last number, which is clear already
pub without_mark_same : (l : List ℕ) (j : ℕ) → mark_bit (without_mark l j) j ≡ 0
unfolding mark_bit without_mark
without_mark_same l j = go (dec_lt (j / 64) (length l))
  where
    m : ℕ
    m = 2 ^ 64 - 1 - 2 ^ (j % 64)

    go : Dec (j / 64 < length l) → bit (get_or (set l (j / 64) (bit_and (get_or l (j / 64) 0) m)) (j / 64) 0) (j % 64) ≡ 0
    go (yes h) =
        let w : ℕ = get_or l (j / 64) 0 in
        ap (λ (x : ℕ). bit x (j % 64)) (get_or-set_same l (j / 64) (bit_and w m) 0 h)
        ∙ bit_and_lem w m (j % 64)
        ∙ ap (bit_and (bit w (j % 64))) (bit_of_all_but_one (j % 64) (j % 64) (omega arith) (omega arith) ∙ ap (λ (x : ℕ). 1 - x) (one_of_equal (j % 64)))
        ∙ and_zero_r (bit w (j % 64))
    go (no f) =
        ap (λ (x : List ℕ). bit (get_or x (j / 64) 0) (j % 64)) (set_out l (j / 64) (bit_and (get_or l (j / 64) 0) m) (omega arith))
        ∙ mark_bit_past_the_end l j (omega arith)

module _ (l : List ℕ) (j : ℕ) (long : length l ≡ 4) (below : j < 256) where
  in_range : j / 64 < length l
  in_range = omega arith

  pub with_mark_same : mark_bit (with_mark l j) j ≡ 1
  unfolding mark_bit with_mark
  with_mark_same =
      let w : ℕ = get_or l (j / 64) 0 in
      ap (λ (x : ℕ). bit x (j % 64)) (get_or-set_same l (j / 64) (bit_or w (2 ^ (j % 64))) 0 in_range)
      ∙ bit_or_lem w (2 ^ (j % 64)) (j % 64)
      ∙ ap (bit_or (bit w (j % 64))) (bit_pow (j % 64) (j % 64) (omega arith) (omega arith) ∙ one_of_equal (j % 64))
      ∙ or_one (bit w (j % 64)) (bit_lt_two w (j % 64))

  -- a block taken is one more live block, a block freed one less
  pub live_count_with_mark : mark_bit l j ≡ 0 → live_count (with_mark l j) ≡ suc (live_count l)
  unfolding live_count
  live_count_with_mark e = sum_suc_of_term_suc (mark_bit l) (mark_bit (with_mark l j)) 256 j below (λ k n. with_mark_other l j k n)
      (with_mark_same ∙ ap suc (sym e))

  pub live_count_without_mark : mark_bit l j ≡ 1 → live_count l ≡ suc (live_count (without_mark l j))
  unfolding live_count
  live_count_without_mark e = sum_suc_of_term_suc (mark_bit (without_mark l j)) (mark_bit l) 256 j below (λ k n. sym (without_mark_other l j k n))
      (e ∙ ap suc (sym (without_mark_same l j)))

-- ---- the live count
pub live_count_le_256 : (l : List ℕ) → live_count l ≤ 256
unfolding live_count
live_count_le_256 l = sum_le_of_terms_le_one (mark_bit l) 256 (λ k h. omega (arith, mark_bit_lt_two l k))

-- nothing is live just where no mark is set
pub marks_clear_of_live_count_zero : (l : List ℕ) → live_count l ≡ 0 → (j : ℕ) → j < 256 → mark_bit l j ≡ 0
unfolding live_count
marks_clear_of_live_count_zero l e j h = omega (arith, term_le_sum (mark_bit l) 256 j h)

pub live_count_zero_of_marks_clear : (l : List ℕ) → ((j : ℕ) → j < 256 → mark_bit l j ≡ 0) → live_count l ≡ 0
unfolding live_count
live_count_zero_of_marks_clear l z = sum_of_zeros (mark_bit l) 256 z

-- the ones of the four numbers are the set marks
pub bit_of_word_is_mark_bit : (l : List ℕ) (i k : ℕ) → k < 64 → bit (get_or l i 0) k ≡ mark_bit l (i * 64 + k)
unfolding mark_bit
bit_of_word_is_mark_bit l i k h = ap₂ (λ (a b : ℕ). bit (get_or l a 0) b) (div_is i k h) (mod_is i k h)
  where
    div_is : (i k : ℕ) → k < 64 → i ≡ (i * 64 + k) / 64
    div_is i k h = omega arith

    mod_is : (i k : ℕ) → k < 64 → k ≡ (i * 64 + k) % 64
    mod_is i k h = omega arith

word_sum : (l : List ℕ) (i : ℕ) → get_or l i 0 < 2 ^ 64 → ones (get_or l i 0) ≡ sum_below (λ k. mark_bit l (i * 64 + k)) 64
word_sum l i h = ones_is_sum_of_bits 64 (get_or l i 0) h ∙ sum_cong (bit (get_or l i 0)) (λ k. mark_bit l (i * 64 + k)) 64
    (λ k lk. bit_of_word_is_mark_bit l i k lk)

pub live_count_is_ones_of_words : (l : List ℕ) → ((i : ℕ) → get_or l i 0 < 2 ^ 64) → ones (get_or l 0 0) + ones (get_or l 1 0) + ones (get_or l 2 0) + ones
    (get_or l 3 0) ≡ live_count l
unfolding live_count
live_count_is_ones_of_words l h =
    let a = word_sum l 0 (h 0) in
    let b = word_sum l 1 (h 1) in
    let c = word_sum l 2 (h 2) in
    let d = word_sum l 3 (h 3) in
    let p = sum_split (mark_bit l) 64 64 in
    let q = sum_split (mark_bit l) 128 64 in
    let r = sum_split (mark_bit l) 192 64 in
    let s = sum_cong (mark_bit l) (λ k. mark_bit l (0 * 64 + k)) 64 (λ k lk. ap (mark_bit l) (omega arith)) in
    omega arith

-- ---- no marks at all
word_of_no_marks : (i : ℕ) → get_or no_marks i 0 ≡ 0
word_of_no_marks zero = refl
word_of_no_marks (suc zero) = refl
word_of_no_marks (suc (suc zero)) = refl
word_of_no_marks (suc (suc (suc zero))) = refl
word_of_no_marks (suc (suc (suc (suc i)))) = refl

pub mark_bit_of_no_marks : (j : ℕ) → mark_bit no_marks j ≡ 0
unfolding mark_bit
mark_bit_of_no_marks j = ap (λ (x : ℕ). bit x (j % 64)) (word_of_no_marks (j / 64)) ∙ bit_of_zero (j % 64)

pub live_count_of_no_marks : live_count no_marks ≡ 0
live_count_of_no_marks = live_count_zero_of_marks_clear no_marks (λ j h. mark_bit_of_no_marks j)
