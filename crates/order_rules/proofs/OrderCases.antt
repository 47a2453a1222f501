-- The order storage in cases that tell the definitions from near misses, by computation. Every place that should not be written holds something.
-- Assumes nothing.
use mathlib.Core.Path.{◌≡◌, refl}
use mathlib.Core.List.{List, [], ◌∷◌, ◌++◌, map}
use Prim.Native.Nat.{ℕ}
use lib.ListN.{replicate}
use Rattle.order_rules.specs.Order.{place, last_filled, with_place, descending, with_renewed_places, renewed, cleared}

-- places for superblocks 0, 1 and 2, and seven more: 70 in superblock 0's, 11 to 15 and 71 in superblock 1's, 21, 22 and 72 in superblock 2's, 73 after them
abbrev pub storage : List ℕ
storage = replicate 256 70 ++ (11 ∷ 12 ∷ 13 ∷ 14 ∷ 15 ∷ replicate 251 71) ++ (21 ∷ 22 ∷ replicate 254 72) ++ replicate 7 73

-- "superblock s has places s × 256 to s × 256 + 255": the first two and the last of each, the last that is lent, and the one after it
pub place_cases :
    map (λ (p : ℕ × ℕ). place storage p.0 p.1) ((0, 0) ∷ (0, 255) ∷ (1, 0) ∷ (1, 1) ∷ (1, 255) ∷ (2, 0) ∷ (2, 1) ∷ (2, 255) ∷ (3, 6) ∷ (3, 7) ∷ [])
    ≡ 70 ∷ 70 ∷ 11 ∷ 12 ∷ 71 ∷ 21 ∷ 22 ∷ 72 ∷ 73 ∷ 0 ∷ []
unfolding place
place_cases = refl

-- the last of the first 1, 4, 256 places of superblock 1; none of no places, nor of 257
pub last_filled_cases : map (last_filled storage 1) (1 ∷ 4 ∷ 256 ∷ 0 ∷ 257 ∷ []) ≡ 11 ∷ 14 ∷ 71 ∷ 0 ∷ 0 ∷ []
unfolding last_filled place
last_filled_cases = refl

-- place 3 of superblock 1 gets 9, and no other place is written; a place that is not lent is none
pub with_place_case : with_place storage 1 3 9 ≡ replicate 256 70 ++ (11 ∷ 12 ∷ 13 ∷ 9 ∷ 15 ∷ replicate 251 71) ++ (21 ∷ 22 ∷ replicate 254 72) ++ replicate 7
    73
unfolding with_place
with_place_case = refl

pub with_place_out_of_storage_case : with_place storage 3 7 9 ≡ storage
unfolding with_place
with_place_out_of_storage_case = refl

-- "put n - 1 - j in place j for j below n .. Places above n - 1 keep what they had.": superblock 1 renewed with 4 blocks
pub renewed_case : renewed storage 1 4 ≡ replicate 256 70 ++ (3 ∷ 2 ∷ 1 ∷ 0 ∷ 15 ∷ replicate 251 71) ++ (21 ∷ 22 ∷ replicate 254 72) ++ replicate 7 73
unfolding renewed with_renewed_places descending
renewed_case = refl

-- seven places of superblock 3 are lent: enough for 7 blocks, not for 8
pub renewed_last_superblock_case : renewed storage 3 7 ≡ replicate 256 70 ++ (11 ∷ 12 ∷ 13 ∷ 14 ∷ 15 ∷ replicate 251 71) ++ (21 ∷ 22 ∷ replicate 254 72)
    ++ 6 ∷ 5 ∷ 4 ∷ 3 ∷ 2 ∷ 1 ∷ 0 ∷ []
unfolding renewed with_renewed_places descending
renewed_last_superblock_case = refl

-- a superblock has 256 places, which class 0 needs: 256 blocks, and not 257, though the storage goes on
pub renewed_256_case : renewed storage 1 256 ≡ replicate 256 70 ++ descending 256 ++ (21 ∷ 22 ∷ replicate 254 72) ++ replicate 7 73
unfolding renewed with_renewed_places descending
renewed_256_case = refl

pub renewed_257_case : renewed storage 1 257 ≡ storage
unfolding renewed with_renewed_places descending
renewed_257_case = refl

pub descending_case : descending 4 ≡ 3 ∷ 2 ∷ 1 ∷ 0 ∷ []
unfolding descending
descending_case = refl

pub renewed_short_storage_case : renewed storage 3 8 ≡ storage
unfolding renewed with_renewed_places descending
renewed_short_storage_case = refl

-- "sets the first N × 256 places of the order storage to 0", for N = 2, and no other
pub cleared_case : cleared storage 512 ≡ replicate 512 0 ++ (21 ∷ 22 ∷ replicate 254 72) ++ replicate 7 73
unfolding cleared
cleared_case = refl

-- where fewer are lent, all
pub cleared_short_storage_case : cleared (5 ∷ 6 ∷ 7 ∷ []) 256 ≡ 0 ∷ 0 ∷ 0 ∷ []
unfolding cleared
cleared_short_storage_case = refl
