-- The names by which blocks are called (document 02, item 2). A state has a number for each name: that of the block that the name points at,
-- or one that says that the name is not held. Assumes nothing.
use Rattle.std.specs.Prelude.{ℕ, ◌+◌, ◌*◌, Bool, true, false, not, List, [], ◌∷◌, map, get_or, set, replicate, eqb, ltb}
use Rattle.base_laws.specs.Sums.{pick, both, either}

-- "Names are 0 to 1023."
abbrev pub name_count : ℕ
name_count = 1024

-- what stands for a name that is not held: no block has this number
abbrev pub not_held : ℕ
not_held = 65535

-- how many block numbers each superblock has
abbrev pub numbers_each : ℕ
numbers_each = 256

-- the number of block j of superblock k
abbrev pub block_number : ℕ → ℕ → ℕ
block_number k j = k * numbers_each + j

-- m is a name
unfoldable pub is_name : ℕ → Bool
is_name m = ltb m name_count

-- the number of the block that name m points at
unfoldable pub block_named : List ℕ → ℕ → ℕ
block_named names m = get_or names m not_held

-- name m is held
unfoldable pub is_held : List ℕ → ℕ → Bool
is_held names m = both (is_name m) (not (eqb (block_named names m) not_held))

-- "A new or refused setup holds no names"
abbrev pub no_names : List ℕ
no_names = replicate name_count not_held

-- "A name holds from its take": name m points at block b
unfoldable pub with_name : List ℕ → ℕ → ℕ → List ℕ
with_name names m b = set names m b

-- "until its block is freed": whichever name points at block b is let go
unfoldable pub without_block : List ℕ → ℕ → List ℕ
without_block names b = map (λ x. pick (eqb x b) not_held x) names

-- each block that a held name points at passes the test
unfoldable pub each_held : (ℕ → Bool) → List ℕ → Bool
each_held test [] = true
each_held test (x ∷ names) = both (either (eqb x not_held) (test x)) (each_held test names)

-- some name points at block b
unfoldable pub is_named : ℕ → List ℕ → Bool
is_named b [] = false
is_named b (x ∷ names) = either (eqb x b) (is_named b names)

-- "no two at one": no block that a held name points at has another name behind it
unfoldable pub no_two_at_one : List ℕ → Bool
no_two_at_one [] = true
no_two_at_one (x ∷ names) = both (either (eqb x not_held) (not (is_named x names))) (no_two_at_one names)
