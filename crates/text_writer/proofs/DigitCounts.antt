-- Decimal digits, where more are allowed than there are. Assumes nothing.
use Rattle.std.proofs.Common.{◌≡◌, ℕ, zero, suc, [], ◌∷◌, ◌+◌, ◌-◌, ◌/◌, ◌%◌, ◌^◌, ◌<◌, ◌≤◌, arith}
use native.Mathlib.Decide.{dec_le}
use Rattle.text_rules.specs.Text.{digits, decimal}
use Rattle.text_rules.proofs.DigitLaws.{div_10_lt_pow_pred, digits_of_one_digit, digits_of_more_digits}
use Rattle.text_writer.specs.declared.Text.{Text}
use Rattle.text_writer.specs.Written.{written}
use Rattle.text_writer.proofs.WriteLaws.{written_append}

-- enough digits are enough
digits_of_enough : (a b n : ℕ) → 1 ≤ a → 1 ≤ b → n < 10 ^ a → n < 10 ^ b → digits a n ≡ digits b n
digits_of_enough zero b n l m h k = absurd (omega arith)
digits_of_enough (suc a) zero n l m h k = absurd (omega arith)
digits_of_enough (suc a) (suc b) n l m h k = elim (dec_le 10 n) [
  | no d ↦ rw (digits_of_one_digit (suc a) n l (omega arith), digits_of_one_digit (suc b) n m (omega arith))
  | yes d ↦
      let p : suc a - 1 ≡ a = omega arith in
      let q : suc b - 1 ≡ b = omega arith in
      let u = rw p at (div_10_lt_pow_pred (suc a) n h d) in
      let v = rw q at (div_10_lt_pow_pred (suc b) n k d) in
      rw (digits_of_more_digits (suc a) n l d, digits_of_more_digits (suc b) n m d, p, q, digits_of_enough a b (n / 10) (omega arith) (omega arith) u.0 v.0)
]

-- of 32 bits
pub digits_20_of_u32 : (n : ℕ) → n < 2 ^ 32 → digits 20 n ≡ decimal n
unfolding decimal
digits_20_of_u32 n h = digits_of_enough 20 10 n (omega arith) (omega arith) (omega arith) (omega arith)

module _ (t : Text) (n : ℕ) where
  -- the only digit; the last one after the others
  pub written_one_digit : n < 10 → written t ((48 + n % 10) ∷ []) ≡ written t (digits 20 n)
  written_one_digit h = rw (digits_of_one_digit 20 n (omega arith) h)

  pub written_last_digit : 10 ≤ n → n < 10 ^ 20 → written (written t (digits 20 (n / 10))) ((48 + n % 10) ∷ []) ≡ written t (digits 20 n)
  written_last_digit h k =
      rw (digits_of_more_digits 20 n (omega arith) h, written_append, digits_of_enough 20 19 (n / 10) (omega arith) (omega arith) (omega arith) (omega arith))
