-- The live marks of a superblock (document 01, "What a superblock carries"): one bit a block, in four 64-bit numbers. "Mark" is document
-- 01's term: an allocator's allocation bitmap, in which a set bit is an allocated block. Block j is bit j mod 64, counted from the
-- lowest, of number j / 64 rounded down. Assumes nothing.
use Rattle.std.specs.Prelude.{ℕ, ◌-◌, ◌/◌, ◌%◌, ◌^◌, Bool, not, List, [], ◌∷◌, get_or, set, eqb, ltb}
use Rattle.std.specs.Int.Bits.{bit_or, bit_and}
use Rattle.base_laws.specs.Sums.{either, sum_below, all_below}

-- "four 64-bit numbers": the bits of each of them
abbrev pub bits_of_word : ℕ
bits_of_word = 64

-- how many marks they are: "one bit a block"
abbrev pub mark_count : ℕ
mark_count = 256

-- bit k of x, counted from the lowest: 0 or 1
unfoldable pub bit : ℕ → ℕ → ℕ
bit x k = x / 2 ^ k % 2

-- block j's mark, 0 or 1; past the last number no mark is set
unfoldable pub mark_bit : List ℕ → ℕ → ℕ
mark_bit l j = bit (get_or l (j / bits_of_word) 0) (j % bits_of_word)

-- block j is live
unfoldable pub is_marked : List ℕ → ℕ → Bool
is_marked l j = eqb (mark_bit l j) 1

-- the marks with block j's set, as a take leaves them
unfoldable pub with_mark : List ℕ → ℕ → List ℕ
with_mark l j = set l (j / bits_of_word) (bit_or (get_or l (j / bits_of_word) 0) (2 ^ (j % bits_of_word)))

-- the marks with block j's cleared, as a free leaves them
unfoldable pub without_mark : List ℕ → ℕ → List ℕ
without_mark l j = set l (j / bits_of_word) (bit_and (get_or l (j / bits_of_word) 0) (2 ^ bits_of_word - 1 - 2 ^ (j % bits_of_word)))

-- the marks with nothing live, as of an unused or renewed superblock
abbrev pub no_marks : List ℕ
no_marks = 0 ∷ 0 ∷ 0 ∷ 0 ∷ []

-- the live count: the number of set marks
unfoldable pub live_count : List ℕ → ℕ
live_count l = sum_below (mark_bit l) mark_count

-- "no mark at n or above" (document 01, "The state handed in")
unfoldable pub no_mark_from : List ℕ → ℕ → Bool
no_mark_from l n = all_below (λ j. either (ltb j n) (not (is_marked l j))) mark_count
