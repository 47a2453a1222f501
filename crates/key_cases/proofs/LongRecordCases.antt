-- Keys of records with long blocks (document 02, item 7), computed. Assumes nothing.
use mathlib.Core.Path.{◌≡◌, refl, ◌∙◌}
use mathlib.Core.List.{List, [], ◌∷◌, ◌++◌}
use Prim.Native.Nat.{ℕ}
use lib.ListN.{replicate}
use Rattle.heap_rules.specs.declared.Setup.{Setup}
use Rattle.call_rules.proofs.RuleCases.{setup_with}
use Rattle.text_rules.specs.Text.{letters}
use Rattle.key_rules.specs.Key.{key_of, storage_of}
use Rattle.key_rules.proofs.KeyCases.{setup, take}
use Rattle.key_laws.proofs.KeyPastCheck.{key_past_check, storage_past_check, past_check_definitions}
use Rattle.key_cases.proofs.RecordCases.{numbers, free_name}

-- a take of a size, its low and its high byte; P = 1, N = 3, K = 1, p/q = 1/2
abbrev take_of_lem : ℕ → ℕ → List ℕ
take_of_lem low high = 1 ∷ 1 ∷ low ∷ high ∷ []

abbrev setup_of_3 : List ℕ
setup_of_3 = 0 ∷ 1 ∷ 3 ∷ 1 ∷ 1 ∷ 2 ∷ []

abbrev numbers_of_3 : Setup
numbers_of_3 = setup_with 1 3 1 1 2

-- 4097 bytes take superblocks 1 and 2; then 2049 bytes take none, as none is left; the run stands before `end`
abbrev long_take : List ℕ
long_take = setup_of_3 ++ take ++ take_of_lem 1 16 ++ take_of_lem 1 8

key_of_long_take : key_of long_take (replicate 768 7)
    ≡ letters "setup 1 3 1 1 2\n" ++ letters "take 1 2048 at 0\n" ++ letters "take 1 4097 at 4096\n" ++ letters "take 1 2049 refused 17\n"
    ++ letters "heap 1 class 26 superblocks 1 live 1\n" ++ letters "run 1 superblocks 2\n" ++ letters "end\n"
unfolding past_check_definitions
key_of_long_take = key_past_check long_take (replicate 768 7) numbers_of_3 _ refl refl ∙ refl

-- a name holds a run of three, from 0 on; the start of its second superblock is refused as off-block; its free by name moves nothing and lets the name go
abbrev named_long_block : List ℕ
named_long_block = setup_of_3 ++ (3 ∷ 1 ∷ 5 ∷ 0 ∷ 1 ∷ 32 ∷ []) ++ (2 ∷ 1 ∷ 0 ∷ 16 ∷ 0 ∷ 0 ∷ []) ++ free_name 5 ++ free_name 5

key_of_named_long_block : key_of named_long_block (replicate 768 7)
    ≡ letters "setup 1 3 1 1 2\n" ++ letters "take 1 name 5 8193 at 0\n" ++ letters "free 1 4096 refused 6\n" ++ letters "free 1 name 5 moved 0\n"
    ++ letters "free 1 name 5 refused 15\n" ++ letters "end\n"
unfolding past_check_definitions
key_of_named_long_block = key_past_check named_long_block (replicate 768 7) numbers_of_3 _ refl refl ∙ refl

-- two runs, by first superblock, of which a drop frees the second
abbrev long_block_dropped : List ℕ
long_block_dropped = setup_of_3 ++ take_of_lem 0 16 ++ take_of_lem 0 32 ++ (5 ∷ 1 ∷ 1 ∷ 0 ∷ 16 ∷ 0 ∷ 0 ∷ []) ++ take_of_lem 1 8

key_of_long_block_dropped : key_of long_block_dropped (replicate 768 7)
    ≡ letters "setup 1 3 1 1 2\n" ++ letters "take 1 4096 at 0\n" ++ letters "take 1 8192 at 4096\n" ++ letters "drop 1 count 1 moved 0\n"
    ++ letters "take 1 2049 at 4096\n" ++ letters "run 0 superblocks 1\n" ++ letters "run 1 superblocks 1\n" ++ letters "end\n"
unfolding past_check_definitions
key_of_long_block_dropped = key_past_check long_block_dropped (replicate 768 7) numbers_of_3 _ refl refl ∙ refl

-- a long take writes no order place: they are as the setup left them
abbrev long_take_alone : List ℕ
long_take_alone = setup ++ take_of_lem 1 8

storage_after_long_take : storage_of long_take_alone (replicate 257 7) ≡ replicate 256 0 ++ (7 ∷ [])
unfolding past_check_definitions
storage_after_long_take = storage_past_check long_take_alone (replicate 257 7) numbers _ refl refl ∙ refl
