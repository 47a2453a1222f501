-- Keys of records with several calls, computed. Assumes nothing.
use mathlib.Core.Path.{◌≡◌, refl, ◌∙◌}
use mathlib.Core.List.{List, [], ◌∷◌, ◌++◌}
use Prim.Native.Nat.{ℕ}
use lib.ListN.{replicate}
use Rattle.heap_rules.specs.declared.Setup.{Setup}
use Rattle.call_rules.proofs.RuleCases.{setup_with}
use Rattle.text_rules.specs.Text.{letters}
use Rattle.key_rules.specs.Key.{key_of, storage_of}
use Rattle.key_rules.proofs.KeyCases.{setup, take, take_by_processor_0, storage}
use Rattle.key_laws.proofs.KeyPastCheck.{key_past_check, storage_past_check, past_check_definitions}

-- P = 1, N = 1, K = 1, p/q = 1/2: the setup of most of the records
abbrev pub numbers : Setup
numbers = setup_with 1 1 1 1 2

-- the free of address 0; a take of 2048 bytes for a name, and a free of that name
abbrev free_0 : List ℕ
free_0 = 2 ∷ 1 ∷ 0 ∷ 0 ∷ 0 ∷ 0 ∷ []

abbrev pub take_name : ℕ → List ℕ
take_name name = 3 ∷ 1 ∷ name ∷ 0 ∷ 0 ∷ 8 ∷ []

abbrev pub free_name : ℕ → List ℕ
free_name name = 4 ∷ 1 ∷ name ∷ 0 ∷ []

-- a refused take prints its number and the record goes on, to its last state and `end`
abbrev refused_take : List ℕ
refused_take = setup ++ take_by_processor_0 ++ take

key_after_refused_take : key_of refused_take storage
    ≡ letters "setup 1 1 1 1 2\n" ++ letters "take 0 2048 refused 2\n" ++ letters "take 1 2048 at 0\n" ++ letters "heap 1 class 26 superblocks 1 live 1\n"
    ++ letters "end\n"
unfolding past_check_definitions
key_after_refused_take = key_past_check refused_take storage numbers _ refl refl ∙ refl

-- size 0 prints as 0 and is a live block of class 0 (document 02, item 1)
abbrev size_0_take : List ℕ
size_0_take = setup ++ (1 ∷ 1 ∷ 0 ∷ 0 ∷ [])

key_of_size_0 : key_of size_0_take storage
    ≡ letters "setup 1 1 1 1 2\n" ++ letters "take 1 0 at 0\n" ++ letters "heap 1 class 0 superblocks 1 live 1\n" ++ letters "end\n"
unfolding past_check_definitions
key_of_size_0 = key_past_check size_0_take storage numbers _ refl refl ∙ refl

-- name 5 is let go by a plain free of its address and used again; 14 while it is held, 15 once its block is freed by name (document 02, item 2)
abbrev name_used_again : List ℕ
name_used_again = setup ++ take_name 5 ++ free_0 ++ take_name 5 ++ take_name 5 ++ free_name 5 ++ free_name 5

key_of_name_used_again : key_of name_used_again storage
    ≡ letters "setup 1 1 1 1 2\n" ++ letters "take 1 name 5 2048 at 0\n" ++ letters "free 1 0 moved 0\n" ++ letters "take 1 name 5 2048 at 0\n"
    ++ letters "take 1 name 5 2048 refused 14\n" ++ letters "free 1 name 5 moved 0\n" ++ letters "free 1 name 5 refused 15\n"
    ++ letters "heap 1 class 26 superblocks 1 live 0\n" ++ letters "end\n"
unfolding past_check_definitions
key_of_name_used_again = key_past_check name_used_again storage numbers _ refl refl ∙ refl

-- plain and named calls mixed: name 5 holds the block at 2048 and frees it, not the one at 0; the take that is refused as dry binds no name 6
abbrev mixed_calls : List ℕ
mixed_calls = setup ++ take ++ take_name 5 ++ take_name 6 ++ free_name 6 ++ free_name 5 ++ take

key_of_mixed_calls : key_of mixed_calls storage
    ≡ letters "setup 1 1 1 1 2\n" ++ letters "take 1 2048 at 0\n" ++ letters "take 1 name 5 2048 at 2048\n" ++ letters "take 1 name 6 2048 refused 4\n"
    ++ letters "free 1 name 6 refused 15\n" ++ letters "free 1 name 5 moved 0\n" ++ letters "take 1 2048 at 2048\n"
    ++ letters "heap 1 class 26 superblocks 1 live 2\n" ++ letters "end\n"
unfolding past_check_definitions
key_of_mixed_calls = key_past_check mixed_calls storage numbers _ refl refl ∙ refl

-- a named take renews as well, and named frees, of block 0 and then block 1, fill the places from the first on
abbrev named_calls : List ℕ
named_calls = setup ++ take_name 5 ++ take_name 6 ++ free_name 5 ++ free_name 6

storage_after_named_calls : storage_of named_calls (replicate 257 7) ≡ 0 ∷ 1 ∷ (replicate 254 0 ++ (7 ∷ []))
unfolding past_check_definitions
storage_after_named_calls = storage_past_check named_calls (replicate 257 7) numbers _ refl refl ∙ refl

-- two superblocks with one live block each, the second freed into last: the next take is from it, where the lower number is 0 (document 02, item 4).
-- P = 1, N = 2, K = 2
abbrev free_4096 : List ℕ
free_4096 = 2 ∷ 1 ∷ 0 ∷ 16 ∷ 0 ∷ 0 ∷ []

abbrev last_freed_into : List ℕ
last_freed_into = 0 ∷ 1 ∷ 2 ∷ 2 ∷ 1 ∷ 2 ∷ [] ++ take ++ take ++ take ++ take ++ free_0 ++ free_4096 ++ take

key_of_last_freed_into : key_of last_freed_into (replicate 512 7)
    ≡ letters "setup 1 2 2 1 2\n" ++ letters "take 1 2048 at 0\n" ++ letters "take 1 2048 at 2048\n" ++ letters "take 1 2048 at 4096\n"
    ++ letters "take 1 2048 at 6144\n" ++ letters "free 1 0 moved 0\n" ++ letters "free 1 4096 moved 0\n"
    ++ letters "take 1 2048 at 4096\n" ++ letters "heap 1 class 26 superblocks 2 live 3\n" ++ letters "end\n"
unfolding past_check_definitions
key_of_last_freed_into = key_past_check last_freed_into (replicate 512 7) (setup_with 1 2 2 1 2) _ refl refl ∙ refl
