-- Keys of small records, computed from the definitions alone: first those in which no call finds a state that passes its check. Assumes nothing.
use mathlib.Core.Path.{◌≡◌, refl, ap}
use Rattle.std.specs.Prelude.{Some, None}
use mathlib.Core.Bool.{true}
use mathlib.Core.List.{List, [], ◌∷◌, ◌++◌}
use Prim.Native.Nat.{ℕ, ◌+◌, ◌*◌, ◌≤◌}
use native.Mathlib.Omega.{arith}
use lib.ListN.{get_or, length, replicate}
use lib.Dec.{leb}
use Rattle.base_laws.proofs.Stages.{◌also◌}
use Rattle.names_rules.specs.Names.{no_names, with_name}
use Rattle.heap_rules.specs.declared.State.{State}
use Rattle.heap_rules.specs.Table.{unused}
use Rattle.heap_rules.specs.States.{with_names}
use Rattle.heap_rules.proofs.CaseStates.{unnamed_state}
use Rattle.heap_rules.proofs.TableCases.{of}
use Rattle.call_rules.specs.declared.Outcome.{Outcome}
use Rattle.call_rules.specs.Answers.{After, number_of}
use Rattle.call_rules.specs.Take.{take_of}
use Rattle.call_rules.specs.Free.{free_of}
use Rattle.call_rules.specs.Named.{named_take_of, named_free_of}
use Rattle.call_rules.specs.Drop.{drop_of}
use Rattle.call_rules.specs.Calls.{call_with, call_of}
use Rattle.call_header.specs.declared.CallHeader.TheVariants as header
use Rattle.record_rules.specs.declared.Command.{Command}
use Rattle.record_rules.specs.Record.{addresses_in, call_byte, call_numbers}
use Rattle.record_rules.specs.declared.Command.TheVariants.{Call, Refused}
use Rattle.text_rules.specs.Text.{letters}
use Rattle.line_rules.specs.Lines.{take_line, free_line, named_take_line, named_free_line, drop_line, call_line}
use Rattle.call_rules.proofs.CallDefinitions.{call_definitions}
use Rattle.record_rules.proofs.CommandDefinitions.{command_definitions}
use Rattle.line_rules.proofs.LineDefinitions.{line_definitions}
use Rattle.key_rules.specs.Key.{state_and_storage, before_first, setup_text, text_of, order_after, key_of, storage_of, room, KeyWritten, KeyOrNoRoom}
use Rattle.key_rules.proofs.KeyClaimCases.{key_claims_hold}

-- what a key's case computes with
unfoldable pub key_definitions : Unit {0}
unfolding key_of text_of setup_text storage_of order_after number_of call_with command_definitions line_definitions call_definitions
key_definitions = tt

-- P = 1, N = 1, K = 1, p/q = 1/2; a take of 2048 bytes, and one by processor 0
abbrev pub setup : List ℕ
setup = 0 ∷ 1 ∷ 1 ∷ 1 ∷ 1 ∷ 2 ∷ []

abbrev pub take : List ℕ
take = 1 ∷ 1 ∷ 0 ∷ 8 ∷ []

abbrev pub take_by_processor_0 : List ℕ
take_by_processor_0 = 1 ∷ 0 ∷ 0 ∷ 8 ∷ []

-- places for one superblock
abbrev pub storage : List ℕ
storage = replicate 256 0

-- a refused setup, with a command behind it: its stop line alone, at 0
key_of_refused_setup_case : key_of (0 ∷ 0 ∷ 1 ∷ 1 ∷ 1 ∷ 2 ∷ take) storage ≡ letters "stopped 1 at 0\n"
unfolding key_definitions
key_of_refused_setup_case = refl

-- one place too few for the superblocks of the setup: refusal 12, which stops the record too
key_of_short_storage_case : key_of (setup ++ take) (replicate 255 0) ≡ letters "stopped 12 at 0\n"
unfolding key_definitions
key_of_short_storage_case = refl

-- a refused setup leaves the storage as it was
storage_after_refused_setup : storage_of (0 ∷ 0 ∷ 1 ∷ 1 ∷ 1 ∷ 2 ∷ take) (replicate 3 7) ≡ replicate 3 7
unfolding key_definitions
storage_after_refused_setup = refl

-- and so does a record that stops at its first byte; one that stops behind its setup leaves what the setup left
storage_after_stop : (storage_of [] (replicate 3 7) ≡ replicate 3 7) × (storage_of (setup ++ (6 ∷ [])) (replicate 257 7) ≡ replicate 256 0 ++ (7 ∷ []))
unfolding key_definitions
storage_after_stop = (refl, refl)

-- a setup alone: no heap and class has a superblock
key_of_setup_only_case : key_of setup storage ≡ letters "setup 1 1 1 1 2\n" ++ letters "end\n"
unfolding key_definitions
key_of_setup_only_case = refl

-- ---- what the answer to a key means, of that setup alone, with 257 places of 7: its key has 20 bytes, of a buffer of 23, and its places are 0
abbrev setup_key : List ℕ
setup_key = letters "setup 1 1 1 1 2\n" ++ letters "end\n"

abbrev places_of : ℕ → List ℕ
places_of n = replicate 256 n ++ (7 ∷ [])

key_written_holds : KeyWritten setup (places_of 7) (replicate 23 5) 20 (places_of 0) (setup_key ++ replicate 3 5)
unfolding key_definitions
key_written_holds = record { text = refl; count = refl; behind = refl; storage = refl }

-- not with another text; with another count, though the buffer ends there; with a byte behind the text changed; with the places as they were, or
-- others; none of these, whatever else holds
other_text_not_written : KeyWritten setup (places_of 7) (replicate 23 5) 20 (places_of 0) (letters "setup 1 1 1 1 3\n" ++ letters "end\n" ++ replicate 3 5) → ⊥
unfolding key_definitions
other_text_not_written k = let z : ◌≡◌ {A = ℕ} 51 50 = ap (λ (l : List ℕ). get_or l 14 0) k.text in omega arith

other_count_not_written : KeyWritten setup (places_of 7) (replicate 20 5) 21 (places_of 0) setup_key → ⊥
unfolding key_definitions
other_count_not_written k = let z : ◌≡◌ {A = ℕ} 21 20 = k.count in omega arith

byte_behind_not_kept : KeyWritten setup (places_of 7) (replicate 23 5) 20 (places_of 0) (setup_key ++ (5 ∷ 5 ∷ 6 ∷ [])) → ⊥
unfolding key_definitions
byte_behind_not_kept k = let z : ◌≡◌ {A = ℕ} 6 5 = ap (λ (l : List ℕ). get_or l 2 0) k.behind in omega arith

other_storage_not_left :
    (KeyWritten setup (places_of 7) (replicate 23 5) 20 (places_of 7) (setup_key ++ replicate 3 5) → ⊥)
    × (KeyWritten setup (places_of 7) (replicate 23 5) 20 (replicate 257 0) (setup_key ++ replicate 3 5) → ⊥)
unfolding key_definitions
other_storage_not_left = (
  λ k. let z : ◌≡◌ {A = ℕ} 7 0 = ap (λ (l : List ℕ). get_or l 0 9) k.storage in omega arith,
  λ k. let z : ◌≡◌ {A = ℕ} 0 7 =
      ap (λ (l : List ℕ). get_or l 256 9) k.storage in omega arith,
)

-- "the key, wherever the buffer has room for every key; else nothing was changed": no text in a buffer that has not the room, though this key fits in
-- it; no other text than the key in one that has; nothing told for want of room where there is room
text_without_room_fails : KeyOrNoRoom setup (places_of 7) (replicate 23 5) (Some 20) (places_of 0) (setup_key ++ replicate 3 5) → ⊥
unfolding KeyOrNoRoom
text_without_room_fails k = let z : room ≤ 23 = k.0 in omega arith

other_text_with_room_fails : (out left new : List ℕ) → KeyOrNoRoom setup (places_of 7) out (Some 19) left new → ⊥
unfolding KeyOrNoRoom key_definitions
other_text_with_room_fails out left new k = let z : ◌≡◌ {A = ℕ} 19 20 = k.1.count in omega arith

no_room_with_room_fails : (out left new : List ℕ) → room ≤ length out → KeyOrNoRoom setup (places_of 7) out None left new → ⊥
unfolding KeyOrNoRoom
no_room_with_room_fails out left new l k = let z = k.0 in omega arith

-- where there is none, neither the buffer nor a place may change
no_room_holds : KeyOrNoRoom setup (places_of 7) (replicate 23 5) None (places_of 7) (replicate 23 5)
unfolding KeyOrNoRoom
no_room_holds = (omega arith, refl, refl)

no_room_changed_fails :
    (KeyOrNoRoom setup (places_of 7) (replicate 23 5) None (places_of 7) (setup_key ++ replicate 3 5) → ⊥)
    × (KeyOrNoRoom setup (places_of 7) (replicate 23 5) None (places_of 0) (replicate 23 5) → ⊥)
unfolding KeyOrNoRoom
no_room_changed_fails = (
  λ k. let z : ◌≡◌ {A = ℕ} 115 5 = ap (λ (l : List ℕ). get_or l 0 9) k.2 in omega arith,
  λ k. let z : ◌≡◌ {A = ℕ} 0 7 =
      ap (λ (l : List ℕ). get_or l 0 9) k.1 in omega arith,
)

-- calls on no state, which are refused 13: each has its own line, and the record goes on; a stop line is the last
text_of_calls_on_no_state :
    text_of [] (before_first [])
    (Call (header.Take 0 2048) 0 0 ∷ Call (header.Free 1 4096) 0 0 ∷ Call (header.NamedTake 1 5 2048) 0 0 ∷ Call (header.NamedFree 1 5) 0 0
    ∷ Call (header.Drop 1) 2 1 ∷ Refused 8 10 ∷ Call (header.Take 0 2048) 0 0 ∷ [])
    ≡ letters "take 0 2048 refused 13\n" ++ letters "free 1 4096 refused 13\n" ++ letters "take 1 name 5 2048 refused 13\n"
    ++ letters "free 1 name 5 refused 13\n" ++ letters "drop 1 count 2 refused 13\n" ++ letters "stopped 8 at 10\n"
unfolding key_definitions
text_of_calls_on_no_state = refl

-- the room holds 10 bytes for each byte of a record of 60000, 9 times 27 heap lines of 64 bytes, and 64 run lines of 31 with `end`
room_enough : leb (60000 * 10 + 9 * 27 * 64 + 64 * 31 + 4) room ≡ true
room_enough = refl

-- ---- each call, of any state and storage: its line has the outcome that it gives on them, and the commands behind it find what it leaves. What a
-- header holds in the record unfolds here, so that a definition that went by it would be computed, and be refused only of the calls that it has wrong
abbrev line_and_rest : List ℕ → (Outcome → List ℕ) → After → List Command → List ℕ
line_and_rest r line left rest = line left.answer.outcome ++ text_of r left rest

text_of_call : (r order : List ℕ) (s : State) (i a m size count first : ℕ) (rest : List Command)
    → (text_of r (state_and_storage s order) (Call (header.Take i size) 0 0 ∷ rest) ≡ line_and_rest r (take_line i size) (take_of s order i size) rest)
    × (text_of r (state_and_storage s order) (Call (header.Free i a) 0 0 ∷ rest) ≡ line_and_rest r (free_line i a) (free_of s order i a) rest)
    × (text_of r (state_and_storage s order) (Call (header.NamedTake i m size) 0 0 ∷ rest)
    ≡ line_and_rest r (named_take_line i m size) (named_take_of s order i m size) rest)
    × (text_of r (state_and_storage s order) (Call (header.NamedFree i m) 0 0 ∷ rest) ≡ line_and_rest r (named_free_line i m) (named_free_of s order i m) rest)
    × (text_of r (state_and_storage s order) (Call (header.Drop i) count first ∷ rest)
    ≡ line_and_rest r (drop_line i count) (drop_of s order i (addresses_in r first count)) rest)
unfolding text_of call_of call_with call_line call_byte call_numbers
text_of_call r order s i a m size count first rest = (refl, refl, refl, refl, refl)

storage_of_call : (r order : List ℕ) (s : State) (i a m size count first : ℕ) (rest : List Command)
    → (order_after r (state_and_storage s order) (Call (header.Take i size) 0 0 ∷ rest) ≡ order_after r (take_of s order i size) rest)
    × (order_after r (state_and_storage s order) (Call (header.Free i a) 0 0 ∷ rest) ≡ order_after r (free_of s order i a) rest)
    × (order_after r (state_and_storage s order) (Call (header.NamedTake i m size) 0 0 ∷ rest) ≡ order_after r (named_take_of s order i m size) rest)
    × (order_after r (state_and_storage s order) (Call (header.NamedFree i m) 0 0 ∷ rest) ≡ order_after r (named_free_of s order i m) rest)
    × (order_after r (state_and_storage s order) (Call (header.Drop i) count first ∷ rest)
    ≡ order_after r (drop_of s order i (addresses_in r first count)) rest)
unfolding order_after call_of call_with call_byte
storage_of_call r order s i a m size count first rest = (refl, refl, refl, refl, refl)

-- ---- calls on states that pass, whose check is long. They are computed only where the cases above hold: a declaration that cites a refused one is skipped,
-- which makes an edit of a definition cheap
cases_without_check_hold : Unit {0}
cases_without_check_hold =
    key_of_refused_setup_case also key_of_short_storage_case also storage_after_refused_setup also storage_after_stop also key_of_setup_only_case
    also key_written_holds also other_text_not_written also other_count_not_written also byte_behind_not_kept also other_storage_not_left
    also text_without_room_fails also other_text_with_room_fails also no_room_with_room_fails also no_room_holds also no_room_changed_fails
    also text_of_calls_on_no_state also room_enough also text_of_call also storage_of_call also key_claims_hold also tt

-- an unknown byte behind a setup and an accepted take: their lines, and the stop line with the byte's own offset, as the last line
key_stopped_by_unknown_byte : key_of (setup ++ take ++ (6 ∷ [])) storage ≡ letters "setup 1 1 1 1 2\n" ++ letters "take 1 2048 at 0\n"
    ++ letters "stopped 8 at 10\n"
unfolding cases_without_check_hold key_definitions
key_stopped_by_unknown_byte = refl

-- a refused take prints its number and the record goes on, to `end`
key_of_refused_take : key_of (setup ++ take_by_processor_0) storage ≡ letters "setup 1 1 1 1 2\n" ++ letters "take 0 2048 refused 2\n" ++ letters "end\n"
unfolding cases_without_check_hold key_definitions
key_of_refused_take = refl

-- ---- calls by name, on a state of that setup: heap 1 has the superblock, of class 26, with these marks; name 5 points at its block j, or at none
abbrev with_name_5 : ℕ → ℕ → List ℕ → After
with_name_5 marks j order =
    state_and_storage (with_names (unnamed_state (record { processors = 1; superblocks = 1; spare = 1; p = 1; q = 2 }) (of 1 26 marks ∷ replicate 63 unused))
    (with_name no_names 5 j)) order

-- a named free lets go the block that the name holds, not the one at address 0: the take after it gets that block
text_of_held_block_freed : text_of [] (with_name_5 3 1 (1 ∷ 0 ∷ replicate 254 0)) (Call (header.NamedFree 1 5) 0 0 ∷ Call (header.Take 1 2048) 0 0 ∷ [])
    ≡ letters "free 1 name 5 moved 0\n" ++ letters "take 1 2048 at 2048\n" ++ letters "heap 1 class 26 superblocks 1 live 2\n" ++ letters "end\n"
unfolding cases_without_check_hold key_definitions
text_of_held_block_freed = refl

-- a named take binds its name, by which its block is freed
text_of_bound_name : text_of [] (with_name_5 1 65535 (1 ∷ 0 ∷ replicate 254 0)) (Call (header.NamedTake 1 5 2048) 0 0 ∷ Call (header.NamedFree 1 5) 0 0 ∷ [])
    ≡ letters "take 1 name 5 2048 at 2048\n" ++ letters "free 1 name 5 moved 0\n" ++ letters "heap 1 class 26 superblocks 1 live 1\n" ++ letters "end\n"
unfolding cases_without_check_hold key_definitions
text_of_bound_name = refl

-- and the storage is what the named free leaves: the block's number in the first place
storage_after_named_free : order_after [] (with_name_5 3 0 (1 ∷ 0 ∷ replicate 255 7)) (Call (header.NamedFree 1 5) 0 0 ∷ []) ≡ 0 ∷ 0 ∷ replicate 255 7
unfolding cases_without_check_hold key_definitions
storage_after_named_free = refl

-- ---- a drop, on the same state, whose name 5 points at block 0 (document 02, item 5)
-- its record, of which only the addresses are read: 2048 and 0, with a byte before and behind them
abbrev both_blocks : List ℕ
both_blocks = 9 ∷ 0 ∷ 8 ∷ 0 ∷ 0 ∷ 0 ∷ 0 ∷ 0 ∷ 0 ∷ 9 ∷ []

-- the line has the count and the moves, the blocks are free, the last one first, and the name is let go
text_of_drop : text_of both_blocks (with_name_5 3 0 (replicate 256 0))
    (Call (header.Drop 1) 2 1 ∷ Call (header.NamedFree 1 5) 0 0 ∷ Call (header.Take 1 2048) 0 0 ∷ [])
    ≡ letters "drop 1 count 2 moved 0\n" ++ letters "free 1 name 5 refused 15\n" ++ letters "take 1 2048 at 0\n"
    ++ letters "heap 1 class 26 superblocks 1 live 1\n" ++ letters "end\n"
unfolding cases_without_check_hold key_definitions
text_of_drop = refl

-- the storage is what the drop leaves: the numbers of its blocks, in the order written
storage_after_drop : order_after both_blocks (with_name_5 3 0 (replicate 257 7)) (Call (header.Drop 1) 2 1 ∷ []) ≡ 1 ∷ 0 ∷ replicate 255 7
unfolding cases_without_check_hold key_definitions
storage_after_drop = refl

-- the storage that is left: the setup clears the places of its superblocks and no other, and a take of an unused superblock renews it
storage_after_setup_and_take : storage_of (setup ++ take) (replicate 257 7) ≡ 1 ∷ 0 ∷ (replicate 254 0 ++ (7 ∷ []))
unfolding cases_without_check_hold key_definitions
storage_after_setup_and_take = refl
