-- Names in cases that tell the definitions from near misses, by computation. Assumes nothing.
use mathlib.Core.Path.{◌≡◌, refl}
use mathlib.Core.Bool.{true, false}
use mathlib.Core.List.{List, [], ◌∷◌, ◌++◌, map}
use Prim.Native.Nat.{ℕ}
use lib.ListN.{replicate}
use lib.Dec.{ltb}
use Rattle.names_rules.specs.Names.{block_number, is_name, block_named, is_held, no_names, with_name, without_block, each_held, is_named, no_two_at_one}
use Rattle.names_rules.proofs.NameDefinitions.{name_definitions}

-- names 0, 2 and 1023 are held: they point at block 5 of superblock 1, block 0 of superblock 0 and block 255 of superblock 63
abbrev pub three_names : List ℕ
three_names = 261 ∷ 65535 ∷ 0 ∷ replicate 1020 65535 ++ 16383 ∷ []

-- "Names are 0 to 1023."
pub is_name_cases : map is_name (0 ∷ 1023 ∷ 1024 ∷ 65535 ∷ []) ≡ true ∷ true ∷ false ∷ false ∷ []
unfolding name_definitions
is_name_cases = refl

pub block_number_cases : block_number 1 5 ∷ block_number 0 0 ∷ block_number 63 255 ∷ [] ≡ 261 ∷ 0 ∷ 16383 ∷ []
block_number_cases = refl

-- a name that points at block 0 is held; 1024 and above are no names, even where the list is longer
pub is_held_cases :
    map (is_held three_names) (0 ∷ 1 ∷ 2 ∷ 1022 ∷ 1023 ∷ 1024 ∷ 65535 ∷ []) ≡ true ∷ false ∷ true ∷ false ∷ true ∷ false ∷ false ∷ []
    × map (is_held (replicate 1025 7)) (1023 ∷ 1024 ∷ []) ≡ true ∷ false ∷ []
    × map (is_held no_names) (0 ∷ 1023 ∷ []) ≡ false ∷ false ∷ []
    × map (block_named three_names) (0 ∷ 2 ∷ 1023 ∷ []) ≡ 261 ∷ 0 ∷ 16383 ∷ []
unfolding name_definitions
is_held_cases = (refl, refl, refl, refl)

-- "A name holds from its take until its block is freed": the other names keep what they point at; name 257, of two bytes, and the last; 1024 is none
pub with_name_case :
    map (λ (m : ℕ). with_name three_names m 262) (1 ∷ 257 ∷ 1023 ∷ 1024 ∷ [])
    ≡ (261 ∷ 262 ∷ 0 ∷ replicate 1020 65535 ++ 16383 ∷ []) ∷ (261 ∷ 65535 ∷ 0 ∷ replicate 254 65535 ++ 262 ∷ replicate 765 65535 ++ 16383 ∷ [])
    ∷ (261 ∷ 65535 ∷ 0 ∷ replicate 1020 65535 ++ 262 ∷ []) ∷ three_names ∷ []
unfolding name_definitions
with_name_case = refl

-- the name of block 261 is let go, of block 0, and of block 16383, which is the last name; nothing changes where the block has no name
pub without_block_cases :
    map (without_block three_names) (261 ∷ 0 ∷ 16383 ∷ 262 ∷ 65535 ∷ [])
    ≡ (65535 ∷ 65535 ∷ 0 ∷ replicate 1020 65535 ++ 16383 ∷ []) ∷ (261 ∷ 65535 ∷ 65535 ∷ replicate 1020 65535 ++ 16383 ∷ [])
    ∷ (261 ∷ 65535 ∷ 0 ∷ replicate 1021 65535) ∷ three_names ∷ three_names ∷ []
unfolding name_definitions
without_block_cases = refl

-- each held name, the last one too: all are below 16384, not all below 16383, nor all above 0; names that are not held are not asked
pub each_held_cases : map (λ (n : ℕ). each_held (λ b. ltb b n) three_names) (16384 ∷ 16383 ∷ 262 ∷ []) ≡ true ∷ false ∷ false ∷ []
    × each_held (ltb 0) three_names ≡ false × each_held (ltb 0) no_names ≡ true
unfolding name_definitions
each_held_cases = (refl, refl, refl)

-- "no two at one": the first and the last name at block 261, two neighbours at block 0; any number of names may be held by none
pub no_two_at_one_cases :
    no_two_at_one three_names ∷ no_two_at_one no_names ∷ no_two_at_one (with_name three_names 1023 261) ∷ no_two_at_one (with_name three_names 1 0)
    ∷ no_two_at_one (with_name three_names 1 1) ∷ []
    ≡ true ∷ true ∷ false ∷ false ∷ true ∷ []
    × map (λ (b : ℕ). is_named b three_names) (261 ∷ 0 ∷ 16383 ∷ 5 ∷ []) ≡ true ∷ true ∷ true ∷ false ∷ []
unfolding name_definitions
no_two_at_one_cases = (refl, refl)
