-- The lines of an answer computed, and held against the text that docs/FORMATS.md has: each field another number, and who has a line. Assumes nothing.
use mathlib.Core.Path.{◌≡◌, refl}
use mathlib.Core.Bool.{true}
use mathlib.Core.List.{List, [], ◌∷◌, ◌++◌}
use Prim.Native.Nat.{ℕ, ◌+◌, ◌*◌}
use lib.Dec.{leb}
use lib.ListN.{set, replicate}
use Rattle.base_laws.proofs.Stages.{◌also◌}
use Rattle.text_rules.specs.Text.{letters}
use Rattle.names_rules.specs.Names.{not_held, no_names, block_named}
use Rattle.heap_rules.specs.declared.Superblock.{Superblock}
use Rattle.heap_rules.specs.declared.Totals.{Totals}
use Rattle.heap_rules.specs.Table.{unused}
use Rattle.heap_rules.specs.Totals.{no_totals}
use Rattle.call_rules.specs.declared.Outcome.TheVariants.{Ready, Address, Moves, Refused}
use Rattle.answer_rules.specs.AnswerLines.{wide_decimal, texts_below, outcome_line, superblock_line, superblock_line_if, superblock_lines, name_line}
use Rattle.answer_rules.specs.AnswerLines.{name_line_if, name_lines, total_line, total_line_if, total_lines, place_line, place_line_if, place_lines}
use Rattle.answer_rules.specs.AnswerLines.{answer_text}
use Rattle.answer_rules.specs.AnswerLines.{bad_input_text, answer_room}
use Rattle.answer_rules.proofs.AnswerDefinitions.{answer_definitions}

-- ---- numbers, and texts one after another
wide_decimal_cases : (wide_decimal 0 ≡ letters "0") × (wide_decimal 10203040506 ≡ letters "10203040506")
    × (wide_decimal 18446744073709551615 ≡ letters "18446744073709551615")
unfolding answer_definitions
wide_decimal_cases = (refl, refl, refl)

texts_below_cases : (texts_below (λ k. k ∷ 9 ∷ []) 3 ≡ 0 ∷ 9 ∷ 1 ∷ 9 ∷ 2 ∷ 9 ∷ []) × (texts_below (λ k. k ∷ []) 0 ≡ [])
unfolding answer_definitions
texts_below_cases = (refl, refl)

-- ---- the outcome
outcome_line_cases : (outcome_line Ready ≡ letters "ready\n") × (outcome_line (Address 258048) ≡ letters "at 258048\n")
    × (outcome_line (Moves 5) ≡ letters "moved 5\n") × (outcome_line (Refused 13) ≡ letters "refused 13\n")
unfolding answer_definitions
outcome_line_cases = (refl, refl, refl, refl)

bad_input_case : bad_input_text ≡ letters "bad input\n"
unfolding answer_definitions
bad_input_case = refl

-- ---- superblocks
abbrev busy : Superblock
busy = record { owner = 8; class = 26; live = 3 ∷ 18446744073709551615 ∷ 4294967296 ∷ 5 ∷ []; rank = 64; run = 16 }

abbrev busy_line : List ℕ
busy_line = letters "superblock 63 owner 8 class 26 live 3 18446744073709551615 4294967296 5 rank 64 run 16\n"

superblock_line_case : superblock_line 63 busy ≡ busy_line
unfolding answer_definitions
superblock_line_case = refl

-- no line of one that is as a new setup has it, and one where a single field is not, of which the others are
superblock_as_new_case : superblock_line_if 7 unused ≡ []
unfolding answer_definitions
superblock_as_new_case = refl

single_field_cases : (superblock_line_if 7 (record { owner = 254; class = 0; live = 0 ∷ 0 ∷ 0 ∷ 0 ∷ []; rank = 0; run = 0 }) ≡ letters
    "superblock 7 owner 254 class 0 live 0 0 0 0 rank 0 run 0\n")
    × (superblock_line_if 7 (record { owner = 255; class = 1; live = 0 ∷ 0 ∷ 0 ∷ 0 ∷ []; rank = 0; run = 0 }) ≡ letters
    "superblock 7 owner 255 class 1 live 0 0 0 0 rank 0 run 0\n")
    × (superblock_line_if 7 (record { owner = 255; class = 0; live = 0 ∷ 0 ∷ 0 ∷ 9223372036854775808 ∷ []; rank = 0; run = 0 }) ≡ letters
    "superblock 7 owner 255 class 0 live 0 0 0 9223372036854775808 rank 0 run 0\n")
    × (superblock_line_if 7 (record { owner = 255; class = 0; live = 0 ∷ 0 ∷ 0 ∷ 0 ∷ []; rank = 1; run = 0 }) ≡ letters
    "superblock 7 owner 255 class 0 live 0 0 0 0 rank 1 run 0\n")
    × (superblock_line_if 7 (record { owner = 255; class = 0; live = 0 ∷ 0 ∷ 0 ∷ 0 ∷ []; rank = 0; run = 1 }) ≡ letters
    "superblock 7 owner 255 class 0 live 0 0 0 0 rank 0 run 1\n")
unfolding answer_definitions
single_field_cases = (refl, refl, refl, refl, refl)

-- "S rising", the last one too; a row may be empty
superblock_lines_cases : (superblock_lines (replicate 5 unused) ≡ []) × (superblock_lines [] ≡ [])
    × (superblock_lines (record { owner = 1; class = 2; live = 4 ∷ 0 ∷ 0 ∷ 0 ∷ []; rank = 0; run = 0 } ∷ unused
    ∷ record { owner = 254; class = 0; live = 0 ∷ 0 ∷ 0 ∷ 0 ∷ []; rank = 0; run = 3 } ∷ [])
    ≡ letters "superblock 0 owner 1 class 2 live 4 0 0 0 rank 0 run 0\nsuperblock 2 owner 254 class 0 live 0 0 0 0 rank 0 run 3\n")
unfolding answer_definitions
superblock_lines_cases = (refl, refl, refl)

-- ---- names
name_line_case : name_line 712 16133 ≡ letters "name 712 superblock 63 block 5\n"
unfolding answer_definitions
name_line_case = refl

-- block 0 is held, and so is one that no superblock has; 65535 is not
name_line_if_cases : (name_line_if 7 0 ≡ letters "name 7 superblock 0 block 0\n") × (name_line_if 0 65534 ≡ letters "name 0 superblock 255 block 254\n")
    × (name_line_if 7 not_held ≡ [])
unfolding answer_definitions
name_line_if_cases = (refl, refl, refl)

-- ---- totals
total_line_case : total_line 8 26 64 128 ≡ letters "total heap 8 class 26 superblocks 64 live 128\n"
unfolding answer_definitions
total_line_case = refl

-- a line where one of the two is not 0
total_line_if_cases : (total_line_if 28 0 0 ≡ []) × (total_line_if 28 0 5 ≡ letters "total heap 1 class 1 superblocks 0 live 5\n")
    × (total_line_if 28 5 0 ≡ letters "total heap 1 class 1 superblocks 5 live 0\n")
unfolding answer_definitions
total_line_if_cases = (refl, refl, refl)

-- "H rising, then C", from heap 0 and class 0 to heap 8 and class 26
abbrev several_totals : Totals
several_totals = record { superblocks = set (set no_totals.superblocks 242 7) 26 255; live = set (set no_totals.live 27 65535) 0 2 }

total_lines_case : total_lines several_totals
    ≡ letters "total heap 0 class 0 superblocks 0 live 2\ntotal heap 0 class 26 superblocks 255 live 0\n"
    ++ letters "total heap 1 class 0 superblocks 0 live 65535\ntotal heap 8 class 26 superblocks 7 live 0\n"
unfolding answer_definitions
total_lines_case = refl

-- ---- order places
place_line_case : place_line 16999 65535 ≡ letters "place 16999 65535\n"
unfolding answer_definitions
place_line_case = refl

place_line_if_cases : (place_line_if 3 4 4 ≡ []) × (place_line_if 3 4 0 ≡ letters "place 3 0\n")
unfolding answer_definitions
place_line_if_cases = (refl, refl)

-- "I rising", with the new numbers; the last place too, and none past the end of one of the two
place_lines_cases : (place_lines (5 ∷ 6 ∷ 7 ∷ 8 ∷ []) (4 ∷ 6 ∷ 0 ∷ 9 ∷ []) ≡ letters "place 0 4\nplace 2 0\nplace 3 9\n")
    × (place_lines (5 ∷ []) (4 ∷ 6 ∷ []) ≡ letters "place 0 4\n") × (place_lines (5 ∷ 6 ∷ []) (4 ∷ []) ≡ letters "place 0 4\n") × (place_lines [] [] ≡ [])
unfolding answer_definitions
place_lines_cases = (refl, refl, refl, refl)

-- ---- whole answers: every kind of line, each where it is to stand; and of a refused call on a state where nothing is to be told, past whose lists no
-- name is held and totals are 0
whole_answer_case : answer_text (Moves 2)
    (record {
      setup = record { processors = 7; superblocks = 63; spare = 15; p = 3; q = 8 };
      table = unused ∷ busy ∷ [];
      names = not_held ∷ 261
          ∷ [];
      totals = record { superblocks = 0 ∷ 4 ∷ []; live = 0 ∷ 9 ∷ [] };
    }) (5 ∷ 6 ∷ []) (5 ∷ 4 ∷ [])
    ≡ letters "moved 2\nsetup 7 63 15 3 8\nsuperblock 1 owner 8 class 26 live 3 18446744073709551615 4294967296 5 rank 64 run 16\n"
    ++ letters "name 1 superblock 1 block 5\ntotal heap 0 class 1 superblocks 4 live 9\nplace 1 4\nend\n"
unfolding answer_definitions
whole_answer_case = refl

nothing_told_case : answer_text (Refused 1)
    (record {
      setup = record { processors = 0; superblocks = 0; spare = 0; p = 0; q = 0 };
      table = unused ∷ [];
      names = not_held ∷ [];
      totals = record { superblocks = 0 ∷ []; live = 0 ∷ [] };
    }) (5 ∷ []) (5 ∷ [])
    ≡ letters "refused 1\nsetup 0 0 0 0 0\nend\n"
unfolding answer_definitions
nothing_told_case = refl

-- ---- how many there are at most: a line for each of 1024 names; and the room holds the longest lines of all kinds (AnswerLengthLaws), with 65 superblocks
-- and 17000 places
lines_of_1024_names : (names : List ℕ) → name_lines names ≡ texts_below (λ m. name_line_if m (block_named names m)) 1024
unfolding answer_definitions
lines_of_1024_names names = refl

room_of_longest_lines : leb (19 + 61 + 65 * 169 + 1024 * 43 + 243 * 64 + 17000 * 23 + 4) answer_room ≡ true
room_of_longest_lines = refl

-- ---- all names: a case that takes the prover longer than those above together. It unfolds a declaration that cites them, and so is skipped where an
-- edit makes one of them false.
unfoldable lines_hold : Unit {0}
lines_hold =
    wide_decimal_cases also texts_below_cases also outcome_line_cases also bad_input_case also superblock_line_case also superblock_as_new_case also
    single_field_cases also superblock_lines_cases also name_line_case also name_line_if_cases also total_line_case also total_line_if_cases also
    total_lines_case also place_line_case also place_line_if_cases also place_lines_cases also whole_answer_case also nothing_told_case also
    lines_of_1024_names also room_of_longest_lines also tt

-- "M rising", from 0 to 1023
name_lines_case : name_lines (set (set (set no_names 1023 261) 700 0) 0 16383)
    ≡ letters "name 0 superblock 63 block 255\nname 700 superblock 0 block 0\nname 1023 superblock 1 block 5\n"
unfolding lines_hold answer_definitions
name_lines_case = refl
