-- Decimals and pasted texts, computed. Assumes nothing.
use mathlib.Core.Path.{◌≡◌, refl}
use mathlib.Core.List.{[]}
use Rattle.text_rules.specs.Text.{letters, decimal, digits, pasted}

-- ---- numbers in decimal: the least, the last of one digit, the first of two, the greatest of 32 bits
decimal_least : decimal 0 ≡ letters "0"
unfolding decimal digits
decimal_least = refl

decimal_one_digit : decimal 9 ≡ letters "9"
unfolding decimal digits
decimal_one_digit = refl

decimal_two_digits : decimal 10 ≡ letters "10"
unfolding decimal digits
decimal_two_digits = refl

decimal_greatest : decimal 4294967295 ≡ letters "4294967295"
unfolding decimal digits
decimal_greatest = refl

-- ---- a text that fits, one that just fits, one that is truncated, and places at the end and past it
pasted_fitting : pasted (letters "abcdef") 1 (letters "123") ≡ record { end = 4; buffer = letters "a123ef" }
unfolding pasted
pasted_fitting = refl

pasted_to_end : pasted (letters "abcdef") 3 (letters "123") ≡ record { end = 6; buffer = letters "abc123" }
unfolding pasted
pasted_to_end = refl

pasted_truncated : pasted (letters "abcdef") 4 (letters "123") ≡ record { end = 6; buffer = letters "abcd12" }
unfolding pasted
pasted_truncated = refl

pasted_at_end : pasted (letters "abcdef") 6 (letters "123") ≡ record { end = 6; buffer = letters "abcdef" }
unfolding pasted
pasted_at_end = refl

pasted_past_end : pasted (letters "abcdef") 8 (letters "123") ≡ record { end = 6; buffer = letters "abcdef" }
unfolding pasted
pasted_past_end = refl

pasted_nothing : pasted (letters "abcdef") 2 [] ≡ record { end = 2; buffer = letters "abcdef" }
unfolding pasted
pasted_nothing = refl
