-- Several numbers of four bytes: how many there are, and which stands where. Assumes nothing.
use mathlib.Core.Path.{◌≡◌, sym, ap, ◌∙◌}
use mathlib.Core.List.{List}
use Prim.Native.Nat.{ℕ, ◌+◌, ◌*◌, ◌<◌}
use lib.ListN.{length, get_or, take}
use Rattle.base_laws.proofs.ListedLaws.{length_listed, get_or_listed}
use Rattle.bytes_rules.specs.Bytes.{four_at, fours_at}
-- the computed cases come first: a wrong definition fails there
use Rattle.bytes_rules.proofs.LittleEndianCases as cases

pub length_of_fours_at : (r : List ℕ) (at n : ℕ) → length (fours_at r at n) ≡ n
unfolding fours_at
length_of_fours_at r at n = length_listed (λ (i : ℕ). four_at r (at + 4 * i)) n

pub fours_at_number : (r : List ℕ) (at n i : ℕ) → i < n → get_or (fours_at r at n) i 0 ≡ four_at r (at + 4 * i)
unfolding fours_at
fours_at_number r at n i h = get_or_listed (λ (k : ℕ). four_at r (at + 4 * k)) n i 0 h

-- so many of them may be lent
pub fours_read_counted : (r : List ℕ) (at count : ℕ) (l : List ℕ) → take count l ≡ fours_at r at count → count ≡ length (take count l)
fours_read_counted r at count l e = sym (ap length e ∙ length_of_fours_at r at count)
