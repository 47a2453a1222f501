-- The order storage (document 01, "What a superblock carries"). The terms are document 01's: "order storage" is the memory of all free
-- lists, a "place" is one element of it, and the filled places of a superblock are its free list, a stack whose last filled place is the
-- top. Superblock s has places s * 256 to s * 256 + 255. Assumes nothing.
use Rattle.std.specs.Prelude.{ℕ, zero, suc, ◌+◌, ◌-◌, ◌*◌, min, List, [], ◌∷◌, ◌++◌, length, get_or, set, take, drop, replicate, leb}
use Rattle.base_laws.specs.Sums.{pick, both}

-- "superblock s has places s × 256 to s × 256 + 255"
abbrev pub places_each : ℕ
places_each = 256

-- what place p of superblock s holds; 0 where the storage has no such place
unfoldable pub place : List ℕ → ℕ → ℕ → ℕ
place l s p = get_or l (s * places_each + p) 0

-- what the last of the first `filled` places of superblock s holds: the block that a take takes; 0 where there is no such place
unfoldable pub last_filled : List ℕ → ℕ → ℕ → ℕ
last_filled l s filled = pick (both (leb 1 filled) (leb filled places_each)) (place l s (filled - 1)) 0

-- block b put in place p of superblock s; nothing changes where the storage has no such place
unfoldable pub with_place : List ℕ → ℕ → ℕ → ℕ → List ℕ
with_place l s p b = set l (s * places_each + p) b

-- n - 1, n - 2, .., 0
unfoldable pub descending : ℕ → List ℕ
descending zero = []
descending (suc n) = n ∷ descending n

-- n - 1 - j in place j of superblock s for each j below n; every other place as it was
unfoldable pub with_renewed_places : List ℕ → ℕ → ℕ → List ℕ
with_renewed_places l s n = take (s * places_each) l ++ descending n ++ drop (s * places_each + n) l

-- the order of a renewed superblock s of n blocks; nothing changes where superblock s has not n places. "Renew" is document 01's term for
-- reinitializing an empty superblock: its free list here, its record in call_rules/specs/Take.antt
unfoldable pub renewed : List ℕ → ℕ → ℕ → List ℕ
renewed l s n = pick (both (leb n places_each) (leb (s * places_each + n) (length l))) (with_renewed_places l s n) l

-- 0 in the first n places, as a new setup leaves them; every other place as it was
unfoldable pub cleared : List ℕ → ℕ → List ℕ
cleared l n = replicate (min n (length l)) 0 ++ drop n l
