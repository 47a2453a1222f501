-- Laws of the bits of a number. Assumes nothing.
use mathlib.Core.Path.{◌≡◌, refl, sym, ap, ◌∙◌, subst}
use mathlib.Core.Bool.{Bool}
use Prim.Native.Nat.{ℕ, zero, suc, ◌+◌, ◌-◌, ◌*◌, ◌/◌, ◌%◌, ◌^◌, ◌≤◌, ◌<◌}
use native.Mathlib.Nat.{mod-lt, zero-lt-suc, div-div-eq-div-mul, pow-suc, mul_comm, div-one, zero-div, div-eq_of_lt, lt_of_lt_of_le, lt_of_le_of_lt}
use native.Mathlib.Nat.{add_comm, sub-add_cancel}
use native.Mathlib.Decide.{dec_lt}
use native.Mathlib.Numerals.{add-one}
use native.Mathlib.Omega.{arith}
use lib.Dec.{eqb, eqb→eq}
use lib.Arith.{lt-one}
use lib.Pow.{shr_lt, shr_le, shr-shr, pow_mono}
use lib.Bits.{bit_or, bit_and, or_shr, or_mod, and_shr, and_mod, or_add_and, and_le_l, and_le_r}
use lib.Count.{ones, ones_in, ones_step}
use Rattle.base_laws.specs.Sums.{one, sum_below, all_below}
use Rattle.base_laws.proofs.SumLaws.{all_at}
use Rattle.marks_rules.specs.Marks.{bit}

pub bit_lt_two : (x k : ℕ) → bit x k < 2
unfolding bit
bit_lt_two x k = mod-lt (x / 2 ^ k) (zero-lt-suc 1)

pub bit_or_lem : (a b k : ℕ) → bit (bit_or a b) k ≡ bit_or (bit a k) (bit b k)
unfolding bit
bit_or_lem a b k = ap (λ (n : ℕ). n % 2) (or_shr a b k) ∙ or_mod (a / 2 ^ k) (b / 2 ^ k) 1

pub bit_and_lem : (a b k : ℕ) → bit (bit_and a b) k ≡ bit_and (bit a k) (bit b k)
unfolding bit
bit_and_lem a b k = ap (λ (n : ℕ). n % 2) (and_shr a b k) ∙ and_mod (a / 2 ^ k) (b / 2 ^ k) 1

-- no bit is set where no bit of either is
pub left_zero_of_or_zero : (a b : ℕ) → bit_or a b ≡ 0 → a ≡ 0
left_zero_of_or_zero a b e = omega (arith, or_add_and a b, and_le_r a b)

pub right_zero_of_or_zero : (a b : ℕ) → bit_or a b ≡ 0 → b ≡ 0
right_zero_of_or_zero a b e = omega (arith, or_add_and a b, and_le_l a b)

-- ---- one bit, and all but one, computed at each place
shl_test : ℕ → Bool
shl_test b = eqb (1 * 2 ^ b % 2 ^ 64) (2 ^ b)

pub shl_one : (b : ℕ) → b < 64 → 1 * 2 ^ b % 2 ^ 64 ≡ 2 ^ b
unfolding all_below shl_test
shl_one b h = eqb→eq (1 * 2 ^ b % 2 ^ 64) (2 ^ b) (all_at shl_test 64 tt b h)

pow_test : ℕ → ℕ → Bool
pow_test b k = eqb (2 ^ b / 2 ^ k % 2) (one (eqb b k))

pow_row : ℕ → Bool
unfolding pow_test
pow_row b = all_below (pow_test b) 64

pub bit_pow : (b k : ℕ) → b < 64 → k < 64 → bit (2 ^ b) k ≡ one (eqb b k)
unfolding all_below bit pow_test pow_row
bit_pow b k hb hk = eqb→eq (2 ^ b / 2 ^ k % 2) (one (eqb b k)) (all_at (pow_test b) 64 (all_at pow_row 64 tt b hb) k hk)

all_but_one_test : ℕ → ℕ → Bool
all_but_one_test b k = eqb ((2 ^ 64 - 1 - 2 ^ b) / 2 ^ k % 2) (1 - one (eqb b k))

all_but_one_row : ℕ → Bool
unfolding all_but_one_test
all_but_one_row b = all_below (all_but_one_test b) 64

pub bit_of_all_but_one : (b k : ℕ) → b < 64 → k < 64 → bit (2 ^ 64 - 1 - 2 ^ b) k ≡ 1 - one (eqb b k)
unfolding all_below bit all_but_one_test all_but_one_row
bit_of_all_but_one b k hb hk = eqb→eq ((2 ^ 64 - 1 - 2 ^ b) / 2 ^ k % 2) (1 - one (eqb b k))
    (all_at (all_but_one_test b) 64 (all_at all_but_one_row 64 tt b hb) k hk)

-- ---- the ones of a number are the sum of its bits
bit_of_half : (x k : ℕ) → bit (x / 2) k ≡ bit x (suc k)
unfolding bit
bit_of_half x k = ap (λ (n : ℕ). n % 2) (div-div-eq-div-mul x 2 (2 ^ k) ∙ ap (λ (n : ℕ). x / n) (mul_comm 2 (2 ^ k) ∙ sym (pow-suc 2 k)))

bit_0_is_mod_2 : (x : ℕ) → bit x 0 ≡ x % 2
unfolding bit
bit_0_is_mod_2 x = ap (λ (n : ℕ). n % 2) (div-one x)

half_lt : (k x : ℕ) → x < 2 ^ suc k → x / 2 < 2 ^ k
half_lt k x h = shr_lt k 1 (subst (λ (n : ℕ). x < 2 ^ n) (sym (add-one k)) h)

ones_in_suc : (k x : ℕ) → ones_in (suc k) x ≡ ones_in k x + bit x k
unfolding ones_in
ones_in_suc zero x = let e : bit x 0 ≡ x % 2 = bit_0_is_mod_2 x in omega arith
ones_in_suc (suc k) x =
    let ih : ones_in (suc k) (x / 2) ≡ ones_in k (x / 2) + bit (x / 2) k = ones_in_suc k (x / 2) in
    let e = bit_of_half x k in
    omega arith

ones_in_sum : (k x : ℕ) → ones_in k x ≡ sum_below (bit x) k
unfolding ones_in sum_below
ones_in_sum zero x = refl
ones_in_sum (suc k) x = ones_in_suc k x ∙ ap (λ (n : ℕ). n + bit x k) (ones_in_sum k x)

ones_is_ones_in : (k x : ℕ) → x < 2 ^ k → ones x ≡ ones_in k x
unfolding ones_in ones
ones_is_ones_in zero x h = ap ones (lt-one h)
ones_is_ones_in (suc k) x h = ones_step x ∙ ap (λ (n : ℕ). x % 2 + n) (ones_is_ones_in k (x / 2) (half_lt k x h))

pub ones_is_sum_of_bits : (k x : ℕ) → x < 2 ^ k → ones x ≡ sum_below (bit x) k
ones_is_sum_of_bits k x h = ones_is_ones_in k x h ∙ ones_in_sum k x

-- ---- what is left of a number moved down by m is 0 just where its bits from m on are clear
bit_shr : (x m i : ℕ) → bit (x / 2 ^ m) i ≡ bit x (m + i)
unfolding bit
bit_shr x m i = ap (λ (n : ℕ). n % 2) (shr-shr x m i)

bit_above_is_zero : (x k : ℕ) → x < 2 ^ k → bit x k ≡ 0
unfolding bit
bit_above_is_zero x k h = ap (λ (n : ℕ). n % 2) (div-eq_of_lt h)

pub bit_of_zero : (k : ℕ) → bit 0 k ≡ 0
unfolding bit
bit_of_zero k = ap (λ (n : ℕ). n % 2) (zero-div (2 ^ k))

zero_of_bits : (k x : ℕ) → x < 2 ^ k → ((i : ℕ) → i < k → bit x i ≡ 0) → x ≡ 0
zero_of_bits zero x h z = lt-one h
zero_of_bits (suc k) x h z =
    let e : x / 2 ≡ 0 = zero_of_bits k (x / 2) (half_lt k x h) (λ i l. bit_of_half x i ∙ z (suc i) (omega arith)) in
    let o : x % 2 ≡ 0 = sym (bit_0_is_mod_2 x) ∙ z 0 (omega arith) in
    omega arith

pub shifted_zero_of_clear_bits : (x m : ℕ) → x < 2 ^ 64 → ((k : ℕ) → m ≤ k → k < 64 → bit x k ≡ 0) → x / 2 ^ m ≡ 0
shifted_zero_of_clear_bits x m h z = zero_of_bits 64 (x / 2 ^ m) (lt_of_le_of_lt (shr_le x m) h) (λ i l. bit_shr x m i ∙ go i (dec_lt (m + i) 64))
  where
    go : (i : ℕ) → Dec (m + i < 64) → bit x (m + i) ≡ 0
    go i (yes l) = z (m + i) (omega arith) l
    go i (no f) = bit_above_is_zero x (m + i) (lt_of_lt_of_le h (pow_mono {i = 64} {j = m + i} (omega arith)))

pub clear_bits_of_shifted_zero : (x m k : ℕ) → x / 2 ^ m ≡ 0 → m ≤ k → bit x k ≡ 0
clear_bits_of_shifted_zero x m k e l =
    ap (bit x) (sym (add_comm m (k - m) ∙ sub-add_cancel l)) ∙ sym (bit_shr x m (k - m)) ∙ ap (λ (n : ℕ). bit n (k - m)) e ∙ bit_of_zero (k - m)
