-- Keys of records with drops (document 02, item 5), computed. Assumes nothing.
use mathlib.Core.Path.{◌≡◌, refl, ◌∙◌}
use mathlib.Core.List.{List, [], ◌∷◌, ◌++◌}
use Prim.Native.Nat.{ℕ}
use lib.ListN.{replicate}
use Rattle.call_rules.proofs.RuleCases.{setup_with}
use Rattle.text_rules.specs.Text.{letters}
use Rattle.key_rules.specs.Key.{key_of, storage_of}
use Rattle.key_rules.proofs.KeyCases.{setup, take, storage}
use Rattle.key_laws.proofs.KeyPastCheck.{key_past_check, storage_past_check, past_check_definitions}
use Rattle.key_cases.proofs.RecordCases.{numbers, take_name, free_name}

-- a drop of these addresses, each below 65536: its low and its high byte
abbrev drop_3 : ℕ → ℕ → ℕ → ℕ → ℕ → ℕ → List ℕ
drop_3 a b c d e f = 5 ∷ 1 ∷ 3 ∷ a ∷ b ∷ 0 ∷ 0 ∷ c ∷ d ∷ 0 ∷ 0 ∷ e ∷ f ∷ 0 ∷ 0 ∷ []

-- the page's own line, and the command after it. All blocks are freed before anything moves: superblock 0 goes to heap 0, where frees one by one would have
-- moved superblock 1 after the second. P = 1, N = 2, K = 1
abbrev page_dropped : List ℕ
page_dropped = 0 ∷ 1 ∷ 2 ∷ 1 ∷ 1 ∷ 2 ∷ [] ++ take ++ take ++ take ++ drop_3 0 16 0 0 0 8 ++ take

key_of_drop : key_of page_dropped (replicate 512 7)
    ≡ letters "setup 1 2 1 1 2\n" ++ letters "take 1 2048 at 0\n" ++ letters "take 1 2048 at 2048\n" ++ letters "take 1 2048 at 4096\n"
    ++ letters "drop 1 count 3 moved 1\n" ++ letters "take 1 2048 at 4096\n"
    ++ letters "heap 0 class 26 superblocks 1 live 0\n" ++ letters "heap 1 class 26 superblocks 1 live 1\n" ++ letters "end\n"
unfolding past_check_definitions
key_of_drop = key_past_check page_dropped (replicate 512 7) (setup_with 1 2 1 1 2) _ refl refl ∙ refl

-- a refused drop frees nothing and has the number of its first bad address: 0 is listed twice, before an address where no block starts; then the block is
-- live still, and its name held
abbrev refused_drop : List ℕ
refused_drop = setup ++ take_name 5 ++ drop_3 0 0 0 0 6 0 ++ free_name 5

key_of_refused_drop : key_of refused_drop storage
    ≡ letters "setup 1 1 1 1 2\n" ++ letters "take 1 name 5 2048 at 0\n" ++ letters "drop 1 count 3 refused 7\n" ++ letters "free 1 name 5 moved 0\n"
    ++ letters "heap 1 class 26 superblocks 1 live 0\n" ++ letters "end\n"
unfolding past_check_definitions
key_of_refused_drop = key_past_check refused_drop storage numbers _ refl refl ∙ refl

-- a drop cut in its last address stops the record
abbrev truncated_drop : List ℕ
truncated_drop = setup ++ take ++ (5 ∷ 0 ∷ 1 ∷ 0 ∷ 0 ∷ 0 ∷ [])

key_of_truncated_drop : key_of truncated_drop storage ≡ letters "setup 1 1 1 1 2\n" ++ letters "take 1 2048 at 0\n" ++ letters "stopped 9 at 10\n"
unfolding past_check_definitions
key_of_truncated_drop = key_past_check truncated_drop storage numbers _ refl refl ∙ refl

-- the calls' own refusals, after each of which the record goes on: an address whose block is not live, one past the superblocks, one where no block starts, no
-- address, and no processor
abbrev refused_drops : List ℕ
refused_drops =
    setup ++ take ++ (5 ∷ 1 ∷ 1 ∷ 0 ∷ 8 ∷ 0 ∷ 0 ∷ 5 ∷ 1 ∷ 1 ∷ 0 ∷ 0 ∷ 1 ∷ 0 ∷ 5 ∷ 1 ∷ 1 ∷ 6 ∷ 0 ∷ 0 ∷ 0 ∷ 5 ∷ 1 ∷ 0 ∷ 5 ∷ 0 ∷ 0 ∷ [])

key_of_refused_drops : key_of refused_drops storage
    ≡ letters "setup 1 1 1 1 2\n" ++ letters "take 1 2048 at 0\n" ++ letters "drop 1 count 1 refused 7\n" ++ letters "drop 1 count 1 refused 5\n"
    ++ letters "drop 1 count 1 refused 6\n" ++ letters "drop 1 count 0 refused 16\n"
    ++ letters "drop 0 count 0 refused 2\n" ++ letters "heap 1 class 26 superblocks 1 live 1\n" ++ letters "end\n"
unfolding past_check_definitions
key_of_refused_drops = key_past_check refused_drops storage numbers _ refl refl ∙ refl

-- the storage after drops of both blocks: as the renewal left it where the drop is refused, as 0 is listed twice; then the blocks'
-- numbers in the order written
abbrev both_and_double : List ℕ
both_and_double = setup ++ take ++ take ++ drop_3 0 0 0 8 0 0

storage_after_refused_drop : storage_of both_and_double (replicate 257 7) ≡ 1 ∷ 0 ∷ (replicate 254 0 ++ (7 ∷ []))
unfolding past_check_definitions
storage_after_refused_drop = storage_past_check both_and_double (replicate 257 7) numbers _ refl refl ∙ refl

abbrev both_dropped : List ℕ
both_dropped = setup ++ take ++ take ++ (5 ∷ 1 ∷ 2 ∷ 0 ∷ 0 ∷ 0 ∷ 0 ∷ 0 ∷ 8 ∷ 0 ∷ 0 ∷ [])

storage_after_drop : storage_of both_dropped (replicate 257 7) ≡ 0 ∷ 1 ∷ (replicate 254 0 ++ (7 ∷ []))
unfolding past_check_definitions
storage_after_drop = storage_past_check both_dropped (replicate 257 7) numbers _ refl refl ∙ refl
