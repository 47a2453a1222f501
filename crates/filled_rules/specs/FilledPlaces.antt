-- The check of one superblock's marks and filled order places (document 01, "The state handed in"). Assumes nothing.
use Rattle.std.specs.Prelude.{ℕ, ◌+◌, ◌-◌, ◌*◌, Bool, List, length, eqb, leb}
use Rattle.base_laws.specs.Sums.{both, one, sum_below, all_below}
use Rattle.marks_rules.specs.Marks.{mark_bit, live_count, no_mark_from}
use Rattle.order_rules.specs.Order.{places_each, place}

-- how many of the places 0 .. m - 1 hold j, where place p holds v p
unfoldable pub occurrences : (ℕ → ℕ) → ℕ → ℕ → ℕ
occurrences v m j = sum_below (λ p. one (eqb (v p) j)) m

-- "Its first n - live places hold the free blocks": how many of the places of a superblock of n blocks are filled
abbrev pub filled_places : List ℕ → ℕ → ℕ
filled_places live n = n - live_count live

-- the filled places of superblock s stand in the storage that is lent
unfoldable pub places_in_storage : List ℕ → List ℕ → ℕ → ℕ → Bool
places_in_storage order live s n = leb (s * places_each + filled_places live n) (length order)

-- "the filled order places hold each unmarked block below n just once", and a marked one in none:
-- the times that a block below n stands there, and its mark, make 1
unfoldable pub each_once : List ℕ → List ℕ → ℕ → ℕ → Bool
each_once order live s n = all_below (λ j. eqb (occurrences (place order s) (filled_places live n) j + mark_bit live j) 1) n

-- superblock s, of n blocks, has no mark at n or above, and its filled places are lent and hold its free blocks
unfoldable pub places_valid : List ℕ → List ℕ → ℕ → ℕ → Bool
places_valid order live s n = both (no_mark_from live n) (both (places_in_storage order live s n) (each_once order live s n))
