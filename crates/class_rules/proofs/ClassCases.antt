-- The printed table of classes, and the sizes marked in document 01, "Edges", with size 0 as document 02, item 1, has it, each by one theorem over
-- one list. Assumes nothing.
use mathlib.Core.Path.{◌≡◌, refl}
use mathlib.Core.Bool.{true, false}
use mathlib.Core.List.{List, [], ◌∷◌, map}
use Prim.Native.Nat.{ℕ}
use Rattle.class_rules.specs.Classes.{sizes, counts, size_of, blocks_of, first_at_least, class_of, is_long, run_length, is_too_large}

-- "Class 0 to 26, as block size / blocks in a superblock"; there is no class 27
unfoldable pub printed_table : List (ℕ × ℕ × ℕ)
printed_table =
    (0, 16, 256) ∷ (1, 24, 170) ∷ (2, 32, 128) ∷ (3, 40, 102) ∷ (4, 48, 85) ∷ (5, 56, 73) ∷ (6, 64, 64) ∷ (7, 80, 51) ∷ (8, 96, 42)
    ∷ (9, 112, 36) ∷ (10, 128, 32) ∷ (11, 160, 25) ∷ (12, 192, 21) ∷ (13, 224, 18) ∷ (14, 256, 16) ∷ (15, 320, 12) ∷ (16, 384, 10)
    ∷ (17, 448, 9) ∷ (18, 512, 8) ∷ (19, 640, 6) ∷ (20, 768, 5) ∷ (21, 896, 4) ∷ (22, 1024, 4) ∷ (23, 1280, 3) ∷ (24, 1536, 2)
    ∷ (25, 1792, 2) ∷ (26, 2048, 2) ∷ (27, 0, 0) ∷ []

pub printed_table_is_computed : map (λ (r : ℕ × ℕ × ℕ). (r.0, size_of r.0, blocks_of r.0)) printed_table ≡ printed_table
unfolding printed_table size_of blocks_of sizes counts
printed_table_is_computed = refl

-- a size and its class; no class holds 2049
unfoldable pub marked_sizes : List (ℕ × ℕ)
marked_sizes = (0, 0) ∷ (1, 0) ∷ (16, 0) ∷ (17, 1) ∷ (64, 6) ∷ (65, 7) ∷ (80, 7) ∷ (81, 8) ∷ (2048, 26) ∷ (2049, 27) ∷ []

pub marked_sizes_have_classes : map (λ (p : ℕ × ℕ). class_of p.0) marked_sizes ≡ map (λ (p : ℕ × ℕ). p.1) marked_sizes
unfolding marked_sizes class_of first_at_least sizes
marked_sizes_have_classes = refl

-- long sizes: those above 2048, and not 0
pub is_long_cases : map is_long (0 ∷ 1 ∷ 2048 ∷ 2049 ∷ 65535 ∷ []) ≡ false ∷ false ∷ false ∷ true ∷ true ∷ []
unfolding is_long
is_long_cases = refl

-- "size / 4096 rounded up"
pub run_length_cases : map run_length (2049 ∷ 4095 ∷ 4096 ∷ 4097 ∷ 8192 ∷ 8193 ∷ 61440 ∷ 61441 ∷ 65535 ∷ []) ≡ 1 ∷ 1 ∷ 1 ∷ 2 ∷ 2 ∷ 3 ∷ 15 ∷ 16 ∷ 16 ∷ []
unfolding run_length
run_length_cases = refl

-- refusal 3: sizes of more than 16 bits
pub is_too_large_cases : map is_too_large (0 ∷ 2049 ∷ 65535 ∷ 65536 ∷ []) ≡ false ∷ false ∷ false ∷ true ∷ []
unfolding is_too_large
is_too_large_cases = refl
