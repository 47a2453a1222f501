-- Numbers of several bytes in a list of bytes, by their position. Past the list's end a byte reads as 0. Assumes nothing.
use Rattle.std.specs.Prelude.{ℕ, ◌+◌, ◌*◌, List, length, get_or, ltb}
use Rattle.base_laws.specs.Sums.{pick}
use Rattle.base_laws.specs.Lists.{listed}

-- the largest number of one byte, and so the most that a count of one byte tells
abbrev pub largest_byte : ℕ
largest_byte = 255

-- "numbers of several bytes have the low byte first"
abbrev pub byte_at : List ℕ → ℕ → ℕ
byte_at r i = get_or r i 0

abbrev pub two_at : List ℕ → ℕ → ℕ
two_at r i = byte_at r i + 256 * byte_at r (i + 1)

abbrev pub four_at : List ℕ → ℕ → ℕ
four_at r i = two_at r i + 65536 * two_at r (i + 2)

abbrev pub eight_at : List ℕ → ℕ → ℕ
eight_at r i = four_at r i + 4294967296 * four_at r (i + 4)

-- the position i bytes after another, or the list's end where that is nearer
unfoldable pub position_after : List ℕ → ℕ → ℕ → ℕ
position_after r at i = pick (ltb (at + i) (length r)) (at + i) (length r)

-- so many numbers of four bytes each, from a position on
unfoldable pub fours_at : List ℕ → ℕ → ℕ → List ℕ
fours_at r at count = listed (λ i. four_at r (at + 4 * i)) count
