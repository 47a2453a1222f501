-- The 27 size classes of document 01, "Superblocks, classes and setup". Assumes nothing.
use Rattle.std.specs.Prelude.{ℕ, zero, suc, ◌+◌, ◌-◌, ◌/◌, Bool, List, [], ◌∷◌, get_or, leb, ltb}
use Rattle.base_laws.specs.Sums.{pick}

-- "Class 0 to 26"
abbrev pub class_count : ℕ
class_count = 27

-- "A superblock is S = 4096 bytes."
abbrev pub superblock_bytes : ℕ
superblock_bytes = 4096

-- the most blocks that a superblock has: those of class 0, "16/256"
abbrev pub most_blocks : ℕ
most_blocks = 256

-- the largest size that a class holds: "A size of 1 to 2048 takes the smallest class that holds it."
abbrev pub largest_class_size : ℕ
largest_class_size = 2048

-- the largest size that is lawful: "A size of 2049 to 65535 takes .. [a] run of neighbouring superblocks" (document 02, item 7)
abbrev pub largest_size : ℕ
largest_size = 65535

-- "runs are whole and at most 16 long" (document 02, item 7): the run of the largest size
abbrev pub longest_run : ℕ
longest_run = 16

-- the printed block sizes, by class
unfoldable pub sizes : List ℕ
sizes = 16 ∷ 24 ∷ 32 ∷ 40 ∷ 48 ∷ 56 ∷ 64 ∷ 80 ∷ 96 ∷ 112 ∷ 128 ∷ 160 ∷ 192 ∷ 224 ∷ 256 ∷ 320 ∷ 384 ∷ 448 ∷ 512 ∷ 640 ∷ 768 ∷ 896 ∷ 1024 ∷ 1280 ∷ 1536
    ∷ 1792 ∷ 2048 ∷ []

-- the printed blocks in a superblock, by class; that each is 4096 divided by the size is the law blocks_of_is_quotient
unfoldable pub counts : List ℕ
counts = 256 ∷ 170 ∷ 128 ∷ 102 ∷ 85 ∷ 73 ∷ 64 ∷ 51 ∷ 42 ∷ 36 ∷ 32 ∷ 25 ∷ 21 ∷ 18 ∷ 16 ∷ 12 ∷ 10 ∷ 9 ∷ 8 ∷ 6 ∷ 5 ∷ 4 ∷ 4 ∷ 3 ∷ 2 ∷ 2 ∷ 2 ∷ []

-- the block size of class c; 0 where there is no class c
unfoldable pub size_of : ℕ → ℕ
size_of c = get_or sizes c 0

-- n, the blocks in a superblock of class c; 0 where there is no class c
unfoldable pub blocks_of : ℕ → ℕ
blocks_of c = get_or counts c 0

-- the place of the first entry that is s or more; the list's length where there is none
unfoldable pub first_at_least : ℕ → List ℕ → ℕ
first_at_least s [] = zero
first_at_least s (x ∷ xs) = pick (leb s x) zero (suc (first_at_least s xs))

-- "the smallest class that holds it", so that size 0 "takes class 0" (document 02, item 1); 27 for a size that no class holds
unfoldable pub class_of : ℕ → ℕ
class_of s = first_at_least s sizes

-- "A size of 2049 to 65535 takes .. [a] run of neighbouring superblocks" (document 02, item 7): no class holds it
unfoldable pub is_long : ℕ → Bool
is_long s = ltb largest_class_size s

-- how many superblocks a long block takes: "as many as size / 4096 rounded up"
unfoldable pub run_length : ℕ → ℕ
run_length s = (s + (superblock_bytes - 1)) / superblock_bytes

-- what is left for refusal 3: "As a size has 16 bits, refusal 3 can no longer be met"
unfoldable pub is_too_large : ℕ → Bool
is_too_large s = ltb largest_size s
