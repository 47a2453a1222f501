-- Laws of decimal digits. Assumes nothing.
use mathlib.Core.Path.{◌≡◌, refl, ap, subst}
use mathlib.Core.Bool.{Bool, true, false}
use mathlib.Core.List.{List, [], ◌∷◌, ◌++◌}
use Prim.Native.Nat.{ℕ, zero, suc, ◌+◌, ◌-◌, ◌/◌, ◌%◌, ◌^◌, ◌≤◌, ◌<◌, zero-le}
use native.Mathlib.Nat.{pow-suc}
use native.Mathlib.Omega.{arith}
use borrow.Author.Tests.{lt-ltb, le-ltb, ltb-false}
use lib.ListN.{length, length-append}
use lib.Dec.{ltb}
use Rattle.base_laws.specs.Sums.{pick}
use Rattle.text_rules.specs.Text.{digits, decimal, pasted}
use Rattle.text_rules.proofs.PasteLaws.{paste_then_paste}

pub digits_of_one_digit : (most n : ℕ) → 1 ≤ most → n < 10 → digits most n ≡ (48 + n % 10) ∷ []
unfolding digits
digits_of_one_digit zero n l h = absurd (omega arith)
digits_of_one_digit (suc most) n l h = rw (lt-ltb n 10 h)

pub digits_of_more_digits : (most n : ℕ) → 1 ≤ most → 10 ≤ n → digits most n ≡ digits (most - 1) (n / 10) ++ ((48 + n % 10) ∷ [])
unfolding digits
digits_of_more_digits zero n l h = absurd (omega arith)
digits_of_more_digits (suc most) n l h =
    rw (le-ltb n 10 h) (ap (λ (k : ℕ). digits k (n / 10) ++ ((48 + n % 10) ∷ [])) (less_one most))
  where
    less_one : (k : ℕ) → k ≡ suc k - 1
    less_one k = omega arith

-- the digits before the last are one fewer
pub div_10_lt_pow_pred : (most n : ℕ) → n < 10 ^ most → 10 ≤ n → (n / 10 < 10 ^ (most - 1)) × (2 ≤ most)
div_10_lt_pow_pred zero n h l = absurd (omega arith)
div_10_lt_pow_pred (suc zero) n h l = absurd (omega arith)
div_10_lt_pow_pred (suc (suc most)) n h l =
    (subst (λ (k : ℕ). n / 10 < 10 ^ k) (less_one most) (omega (arith, pow-suc 10 (suc most))), omega arith)
  where
    less_one : (k : ℕ) → suc k ≡ suc (suc k) - 1
    less_one k = omega arith

-- ---- how many digits there are
pub length_of_digits_le_most : (most n : ℕ) → length (digits most n) ≤ most
unfolding digits
length_of_digits_le_most zero n = zero-le
length_of_digits_le_most (suc most) n = go (length_of_digits_le_most most (n / 10)) (ltb n 10)
  where
    go : length (digits most (n / 10)) ≤ most → (b : Bool) → length (pick b ((48 + n % 10) ∷ []) (digits most (n / 10) ++ ((48 + n % 10) ∷ []))) ≤ suc most
    go ih true = omega arith
    go ih false = omega (arith, length-append (digits most (n / 10)) ((48 + n % 10) ∷ []))

-- a number below 10 ^ k has at most k digits
pub length_of_digits_le_of_lt_pow : (most k n : ℕ) → 1 ≤ k → n < 10 ^ k → length (digits most n) ≤ k
unfolding digits
length_of_digits_le_of_lt_pow zero k n l h = zero-le
length_of_digits_le_of_lt_pow (suc most) k n l h = go (ltb n 10) refl (length_of_digits_le_of_lt_pow most (k - 1) (n / 10))
  where
    go : (b : Bool) → ltb n 10 ≡ b → (1 ≤ k - 1 → n / 10 < 10 ^ (k - 1) → length (digits most (n / 10)) ≤ k - 1)
        → length (pick b ((48 + n % 10) ∷ []) (digits most (n / 10) ++ ((48 + n % 10) ∷ []))) ≤ k
    go true e rest = l
    go false e rest =
        let d = div_10_lt_pow_pred k n h (ltb-false n 10 e) in
        let s = rest (omega arith) d.0 in
        omega (arith, length-append (digits most (n / 10)) ((48 + n % 10) ∷ []))

pub length_of_decimal_le_10 : (n : ℕ) → length (decimal n) ≤ 10
unfolding decimal
length_of_decimal_le_10 n = length_of_digits_le_most 10 n

-- of 8 and of 16 bits
pub length_of_byte_decimal_le_3 : (n : ℕ) → n < 256 → length (decimal n) ≤ 3
unfolding decimal
length_of_byte_decimal_le_3 n h = length_of_digits_le_of_lt_pow 10 3 n (omega arith) (omega arith)

pub length_of_u16_decimal_le_5 : (n : ℕ) → n < 65536 → length (decimal n) ≤ 5
unfolding decimal
length_of_u16_decimal_le_5 n h = length_of_digits_le_of_lt_pow 10 5 n (omega arith) (omega arith)

-- ---- digits put into a buffer: the only one; the last one after the others
module _ (l₀ : List ℕ) (at most n x : ℕ) (m : 1 ≤ most) (e : x ≡ 48 + n % 10) where
  pub paste_one_digit : {l : List ℕ} {r : ℕ} → n < 10 → record { end = r; buffer = l } ≡ pasted l₀ at (x ∷ []) → record { end = r; buffer = l }
      ≡ pasted l₀ at (digits most n)
  paste_one_digit h p = rw (digits_of_one_digit most n m h, ← e) p

  pub paste_last_digit : {l₁ l₂ : List ℕ} {r₁ r₂ : ℕ} → 10 ≤ n → record { end = r₁; buffer = l₁ } ≡ pasted l₀ at (digits (most - 1) (n / 10))
      → record { end = r₂; buffer = l₂ } ≡ pasted l₁ r₁ (x ∷ []) → record { end = r₂; buffer = l₂ } ≡ pasted l₀ at (digits most n)
  paste_last_digit h p q = rw (digits_of_more_digits most n m h, ← e) (paste_then_paste l₀ (digits (most - 1) (n / 10)) (x ∷ []) at p q)
