-- Text as bytes, numbers in decimal, and a text pasted into a buffer.
use Rattle.std.specs.Prelude.{List, [], ◌∷◌, ◌++◌, ℕ, zero, suc, ◌+◌, ◌-◌, ◌/◌, ◌%◌, min, length, take, drop, ltb}
use Prim.Native.Char.{code}
use Prim.Native.String.{String}
use Prim.Native.String as S
use Rattle.base_laws.specs.Sums.{pick}

-- the bytes of a text in ASCII
abbrev pub letters : String → List ℕ
letters S.[] = []
letters (S.◌∷◌ c s) = code c ∷ letters s

-- the decimal digits of a number of at most `most` digits, none of them a leading 0
unfoldable pub digits : ℕ → ℕ → List ℕ
digits zero n = []
digits (suc most) n = pick (ltb n 10) ((48 + n % 10) ∷ []) (digits most (n / 10) ++ ((48 + n % 10) ∷ []))

-- a number of at most ten digits in decimal
unfoldable pub decimal : ℕ → List ℕ
decimal n = digits 10 n

-- where a pasted text ends, and the buffer with it
pub record Pasted : Type 0 where
  pub end : ℕ
  pub buffer : List ℕ

-- a text pasted into a buffer at a place, as far as it reaches: what does not fit is left out, and the text then ends where the buffer does;
-- all other bytes are as they were
unfoldable pub pasted : List ℕ → ℕ → List ℕ → Pasted
pasted old at text =
    record {
      end = min (at + length text) (length old);
      buffer = take at old ++ take (length old - at) text ++ drop (at + length text) old;
    }
