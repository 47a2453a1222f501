-- The table of document 02, item 6, from which the code reads the class of a size. Assumes nothing.
use Rattle.std.specs.Prelude.{ℕ, ◌+◌, ◌*◌, ◌/◌, List, [], ◌∷◌, get_or}

-- "A table of 257 entries, one for each size rounded up to a multiple of 8 .. entry 0 included": entry e is the class of size 8 × e. A line for
-- each class, up to its block size
unfoldable pub class_by_size : List ℕ
class_by_size =
    0 ∷ 0 ∷ 0  -- to 16
    ∷ 1  -- to 24
    ∷ 2  -- to 32
    ∷ 3  -- to 40
    ∷ 4  -- to 48
    ∷ 5  -- to 56
    ∷ 6  -- to 64
    ∷ 7 ∷ 7  -- to 80
    ∷ 8 ∷ 8  -- to 96
    ∷ 9 ∷ 9  -- to 112
    ∷ 10 ∷ 10  -- to 128
    ∷ 11 ∷ 11 ∷ 11 ∷ 11  -- to 160
    ∷ 12 ∷ 12 ∷ 12 ∷ 12  -- to 192
    ∷ 13 ∷ 13 ∷ 13 ∷ 13  -- to 224
    ∷ 14 ∷ 14 ∷ 14 ∷ 14  -- to 256
    ∷ 15 ∷ 15 ∷ 15 ∷ 15 ∷ 15 ∷ 15 ∷ 15 ∷ 15  -- to 320
    ∷ 16 ∷ 16 ∷ 16 ∷ 16 ∷ 16 ∷ 16 ∷ 16 ∷ 16  -- to 384
    ∷ 17 ∷ 17 ∷ 17 ∷ 17 ∷ 17 ∷ 17 ∷ 17 ∷ 17  -- to 448
    ∷ 18 ∷ 18 ∷ 18 ∷ 18 ∷ 18 ∷ 18 ∷ 18 ∷ 18  -- to 512
    ∷ 19 ∷ 19 ∷ 19 ∷ 19 ∷ 19 ∷ 19 ∷ 19 ∷ 19 ∷ 19 ∷ 19 ∷ 19 ∷ 19 ∷ 19 ∷ 19 ∷ 19 ∷ 19  -- to 640
    ∷ 20 ∷ 20 ∷ 20 ∷ 20 ∷ 20 ∷ 20 ∷ 20 ∷ 20 ∷ 20 ∷ 20 ∷ 20 ∷ 20 ∷ 20 ∷ 20 ∷ 20 ∷ 20  -- to 768
    ∷ 21 ∷ 21 ∷ 21 ∷ 21 ∷ 21 ∷ 21 ∷ 21 ∷ 21 ∷ 21 ∷ 21 ∷ 21 ∷ 21 ∷ 21 ∷ 21 ∷ 21 ∷ 21  -- to 896
    ∷ 22 ∷ 22 ∷ 22 ∷ 22 ∷ 22 ∷ 22 ∷ 22 ∷ 22 ∷ 22 ∷ 22 ∷ 22 ∷ 22 ∷ 22 ∷ 22 ∷ 22 ∷ 22  -- to 1024
    ∷ 23 ∷ 23 ∷ 23 ∷ 23 ∷ 23 ∷ 23 ∷ 23 ∷ 23 ∷ 23 ∷ 23 ∷ 23 ∷ 23 ∷ 23 ∷ 23 ∷ 23 ∷ 23
    ∷ 23 ∷ 23 ∷ 23 ∷ 23 ∷ 23 ∷ 23 ∷ 23 ∷ 23 ∷ 23 ∷ 23 ∷ 23 ∷ 23 ∷ 23 ∷ 23 ∷ 23 ∷ 23  -- to 1280
    ∷ 24 ∷ 24 ∷ 24 ∷ 24 ∷ 24 ∷ 24 ∷ 24 ∷ 24 ∷ 24 ∷ 24 ∷ 24 ∷ 24 ∷ 24 ∷ 24 ∷ 24 ∷ 24
    ∷ 24 ∷ 24 ∷ 24 ∷ 24 ∷ 24 ∷ 24 ∷ 24 ∷ 24 ∷ 24 ∷ 24 ∷ 24 ∷ 24 ∷ 24 ∷ 24 ∷ 24 ∷ 24  -- to 1536
    ∷ 25 ∷ 25 ∷ 25 ∷ 25 ∷ 25 ∷ 25 ∷ 25 ∷ 25 ∷ 25 ∷ 25 ∷ 25 ∷ 25 ∷ 25 ∷ 25 ∷ 25 ∷ 25
    ∷ 25 ∷ 25 ∷ 25 ∷ 25 ∷ 25 ∷ 25 ∷ 25 ∷ 25 ∷ 25 ∷ 25 ∷ 25 ∷ 25 ∷ 25 ∷ 25 ∷ 25 ∷ 25  -- to 1792
    ∷ 26 ∷ 26 ∷ 26 ∷ 26 ∷ 26 ∷ 26 ∷ 26 ∷ 26 ∷ 26 ∷ 26 ∷ 26 ∷ 26 ∷ 26 ∷ 26 ∷ 26 ∷ 26
    ∷ 26 ∷ 26 ∷ 26 ∷ 26 ∷ 26 ∷ 26 ∷ 26 ∷ 26 ∷ 26 ∷ 26 ∷ 26 ∷ 26 ∷ 26 ∷ 26 ∷ 26 ∷ 26 ∷ []  -- to 2048

-- entry e; 0 past the table
unfoldable pub entry : ℕ → ℕ
entry e = get_or class_by_size e 0

-- which entry is a size's: the size divided by 8, rounded up
unfoldable pub index_of : ℕ → ℕ
index_of s = (s + 7) / 8

-- "rounded up to a multiple of 8"
unfoldable pub rounded_up : ℕ → ℕ
rounded_up s = 8 * index_of s
