-- The commands of document 01's whole case, of records whose bytes all differ, and the record's own refusals in their order. Assumes
-- nothing.
use mathlib.Core.Path.{◌≡◌, refl, ap}
use mathlib.Core.List.{List, [], ◌∷◌, ◌++◌}
use Prim.Native.Nat.{ℕ, suc}
use native.Mathlib.Omega.{arith}
use lib.ListN.{get_or, replicate}
use lib.ListN as bytes
use Rattle.base_laws.proofs.Stages.{◌also◌}
use Rattle.base_laws.specs.Lists.{listed}
use Rattle.call_header.specs.declared.CallHeader.TheVariants as header
use Rattle.record_rules.specs.declared.Command.{Command}
use Rattle.record_rules.specs.declared.Command.TheVariants.{Setup, Call, Refused}
use Rattle.record_rules.specs.Record.{addresses_in, command_at, commands_of, command_number_of, refusal_offset_of, command_byte, numbers_of, beside_header}
use Rattle.record_rules.specs.Record.{HasNumbersOf}
use Rattle.record_rules.proofs.CommandDefinitions.{command_definitions}

abbrev setup : List ℕ
setup = 0 ∷ 1 ∷ 2 ∷ 1 ∷ 1 ∷ 4 ∷ []

abbrev take : List ℕ
take = 1 ∷ 1 ∷ 0 ∷ 8 ∷ []

abbrev free : List ℕ
free = 2 ∷ 1 ∷ 0 ∷ 0 ∷ 0 ∷ 0 ∷ []

whole_case : commands_of (setup ++ take ++ take ++ take ++ free ++ free ++ (2 ∷ 1 ∷ 0 ∷ 8 ∷ 0 ∷ 0 ∷ []) ++ (1 ∷ 1 ∷ 16 ∷ 0 ∷ []) ++ (1 ∷ 1 ∷ 1 ∷ 8 ∷ []))
    ≡ Setup 1 2 1 1 4 ∷ Call (header.Take 1 2048) 0 0 ∷ Call (header.Take 1 2048) 0 0 ∷ Call (header.Take 1 2048) 0 0 ∷ Call (header.Free 1 0) 0 0
    ∷ Call (header.Free 1 0) 0 0 ∷ Call (header.Free 1 2048) 0 0 ∷ Call (header.Take 1 16) 0 0 ∷ Call (header.Take 1 2049) 0 0 ∷ []
unfolding command_definitions
whole_case = refl

-- no byte at all; an unknown byte, first and later; a take that is first, truncated too; a setup that is not, truncated too; a free truncated
-- in its address
no_byte : commands_of [] ≡ Refused 10 0 ∷ []
unfolding command_definitions
no_byte = refl

unknown_first : commands_of (6 ∷ []) ≡ Refused 8 0 ∷ []
unfolding command_definitions
unknown_first = refl

unknown_later : commands_of (setup ++ (255 ∷ 0 ∷ [])) ≡ Setup 1 2 1 1 4 ∷ Refused 8 6 ∷ []
unfolding command_definitions
unknown_later = refl

take_first : commands_of (1 ∷ 1 ∷ []) ≡ Refused 10 0 ∷ []
unfolding command_definitions
take_first = refl

setup_later : commands_of (setup ++ (0 ∷ 1 ∷ [])) ≡ Setup 1 2 1 1 4 ∷ Refused 10 6 ∷ []
unfolding command_definitions
setup_later = refl

free_truncated : commands_of (setup ++ take ++ (2 ∷ 1 ∷ 0 ∷ 0 ∷ 0 ∷ [])) ≡ Setup 1 2 1 1 4 ∷ Call (header.Take 1 2048) 0 0 ∷ Refused 9 10 ∷ []
unfolding command_definitions
free_truncated = refl

-- every byte of a command another: "numbers of several bytes have the low byte first"
abbrev distinct_bytes : List ℕ
distinct_bytes =
    0 ∷ 3 ∷ 4 ∷ 5 ∷ 6 ∷ 7 ∷ 1 ∷ 8 ∷ 9 ∷ 10 ∷ 2 ∷ 11 ∷ 12 ∷ 13 ∷ 14 ∷ 15 ∷ 3 ∷ 16 ∷ 17 ∷ 18 ∷ 19 ∷ 20 ∷ 4 ∷ 21 ∷ 22 ∷ 23
    ∷ 5 ∷ 24 ∷ 2 ∷ 25 ∷ 26 ∷ 27 ∷ 28 ∷ 29 ∷ 30 ∷ 31 ∷ 32 ∷ []

commands_of_distinct_bytes : commands_of distinct_bytes
    ≡ Setup 3 4 5 6 7 ∷ Call (header.Take 8 2569) 0 0 ∷ Call (header.Free 11 252579084) 0 0 ∷ Call (header.NamedTake 16 4625 5139) 0 0
    ∷ Call (header.NamedFree 21 5910) 0 0 ∷ Call (header.Drop 24) 2 29 ∷ []
unfolding command_definitions
commands_of_distinct_bytes = refl

-- the addresses of its drop, in the order written
addresses_of_distinct_bytes : addresses_in distinct_bytes 29 2 ≡ 471538201 ∷ 538910237 ∷ []
unfolding command_definitions
addresses_of_distinct_bytes = refl

-- a setup truncated, and whole but not first; a free first, whole and truncated; a take truncated, and a command of its first byte alone
setup_truncated : commands_of (0 ∷ 1 ∷ 2 ∷ 1 ∷ 1 ∷ []) ≡ Refused 9 0 ∷ []
unfolding command_definitions
setup_truncated = refl

setup_twice : commands_of (setup ++ setup) ≡ Setup 1 2 1 1 4 ∷ Refused 10 6 ∷ []
unfolding command_definitions
setup_twice = refl

free_first : commands_of free ≡ Refused 10 0 ∷ []
unfolding command_definitions
free_first = refl

free_first_truncated : commands_of (2 ∷ 1 ∷ []) ≡ Refused 10 0 ∷ []
unfolding command_definitions
free_first_truncated = refl

take_truncated : commands_of (setup ++ take ++ (1 ∷ 1 ∷ 0 ∷ [])) ≡ Setup 1 2 1 1 4 ∷ Call (header.Take 1 2048) 0 0 ∷ Refused 9 10 ∷ []
unfolding command_definitions
take_truncated = refl

free_of_one_byte : commands_of (setup ++ (2 ∷ [])) ≡ Setup 1 2 1 1 4 ∷ Refused 9 6 ∷ []
unfolding command_definitions
free_of_one_byte = refl

-- calls by name (document 02, item 2): the page's own, then a plain free; each truncated by one byte, and first, whole and truncated
abbrev named_take : List ℕ
named_take = 3 ∷ 1 ∷ 5 ∷ 0 ∷ 0 ∷ 8 ∷ []

abbrev named_free : List ℕ
named_free = 4 ∷ 1 ∷ 5 ∷ 0 ∷ []

named_calls_read : commands_of (setup ++ named_take ++ named_free ++ free)
    ≡ Setup 1 2 1 1 4 ∷ Call (header.NamedTake 1 5 2048) 0 0 ∷ Call (header.NamedFree 1 5) 0 0 ∷ Call (header.Free 1 0) 0 0 ∷ []
unfolding command_definitions
named_calls_read = refl

named_take_truncated : commands_of (setup ++ (3 ∷ 1 ∷ 5 ∷ 0 ∷ 0 ∷ [])) ≡ Setup 1 2 1 1 4 ∷ Refused 9 6 ∷ []
unfolding command_definitions
named_take_truncated = refl

named_free_truncated : commands_of (setup ++ named_take ++ (4 ∷ 1 ∷ 5 ∷ [])) ≡ Setup 1 2 1 1 4 ∷ Call (header.NamedTake 1 5 2048) 0 0 ∷ Refused 9 12 ∷ []
unfolding command_definitions
named_free_truncated = refl

named_take_first : (commands_of named_take ≡ Refused 10 0 ∷ []) × (commands_of (3 ∷ 1 ∷ []) ≡ Refused 10 0 ∷ [])
unfolding command_definitions
named_take_first = (refl, refl)

named_free_first : (commands_of named_free ≡ Refused 10 0 ∷ []) × (commands_of (4 ∷ []) ≡ Refused 10 0 ∷ [])
unfolding command_definitions
named_free_first = (refl, refl)

-- each kind of command as the last of its record, with no byte behind it; the other two end records above
last_command_read :
    (commands_of setup ≡ Setup 1 2 1 1 4 ∷ []) × (commands_of (setup ++ named_take) ≡ Setup 1 2 1 1 4 ∷ Call (header.NamedTake 1 5 2048) 0 0 ∷ [])
    × (commands_of (setup ++ named_free) ≡ Setup 1 2 1 1 4 ∷ Call (header.NamedFree 1 5) 0 0 ∷ [])
    × (commands_of (setup ++ (2 ∷ 1 ∷ 0 ∷ 8 ∷ 0 ∷ 0 ∷ [])) ≡ Setup 1 2 1 1 4 ∷ Call (header.Free 1 2048) 0 0 ∷ [])
unfolding command_definitions
last_command_read = (refl, refl, refl, refl)

-- at the end of a record there is no command, nor past it: 9 at its end, and 10 only where there is no byte at all
past_the_end : (command_at setup 6 ≡ Refused 9 6) × (command_at setup 9 ≡ Refused 9 6) × (command_at [] 0 ≡ Refused 10 0) × (command_at [] 5 ≡ Refused 9 0)
unfolding command_definitions
past_the_end = (refl, refl, refl, refl)

-- any name of two bytes is read: 14 and 15 are the call's refusals
names_read_as_they_are : commands_of (setup ++ (3 ∷ 1 ∷ 255 ∷ 3 ∷ 0 ∷ 0 ∷ 3 ∷ 1 ∷ 0 ∷ 4 ∷ 0 ∷ 0 ∷ 4 ∷ 1 ∷ 255 ∷ 255 ∷ []))
    ≡ Setup 1 2 1 1 4 ∷ Call (header.NamedTake 1 1023 0) 0 0 ∷ Call (header.NamedTake 1 1024 0) 0 0 ∷ Call (header.NamedFree 1 65535) 0 0 ∷ []
unfolding command_definitions
names_read_as_they_are = refl

-- ---- drops (document 02, item 5): of no address, which is the call's refusal 16 and has 3 bytes, of one, two and 255, each followed by the free
abbrev drop_0 : List ℕ
drop_0 = 5 ∷ 1 ∷ 0 ∷ []

abbrev drop_1 : List ℕ
drop_1 = 5 ∷ 1 ∷ 1 ∷ 0 ∷ 8 ∷ 0 ∷ 0 ∷ []

abbrev drop_2 : List ℕ
drop_2 = 5 ∷ 1 ∷ 2 ∷ 0 ∷ 0 ∷ 0 ∷ 0 ∷ 0 ∷ 8 ∷ 0 ∷ 0 ∷ []

drops_read : commands_of (setup ++ drop_0 ++ free ++ drop_1 ++ free ++ drop_2 ++ free)
    ≡ Setup 1 2 1 1 4 ∷ Call (header.Drop 1) 0 9 ∷ Call (header.Free 1 0) 0 0 ∷ Call (header.Drop 1) 1 18
    ∷ Call (header.Free 1 0) 0 0 ∷ Call (header.Drop 1) 2 31 ∷ Call (header.Free 1 0) 0 0 ∷ []
unfolding command_definitions
drops_read = refl

drop_of_255_read : commands_of (setup ++ (5 ∷ 1 ∷ 255 ∷ []) ++ replicate 1020 7 ++ free)
    ≡ Setup 1 2 1 1 4 ∷ Call (header.Drop 1) 255 9 ∷ Call (header.Free 1 0) 0 0 ∷ []
unfolding command_definitions
drop_of_255_read = refl

-- cut at every byte, from the command byte alone to the last byte of the last address: 9 at its own offset, whatever the processor and the count are
drop_truncated : listed (λ n. commands_of (setup ++ bytes.take (suc n) drop_2)) 10 ≡ replicate 10 (Setup 1 2 1 1 4 ∷ Refused 9 6 ∷ [])
unfolding command_definitions
drop_truncated = refl

drop_of_0_truncated : listed (λ n. commands_of (setup ++ bytes.take (suc n) (5 ∷ 0 ∷ 0 ∷ []))) 2 ≡ replicate 2 (Setup 1 2 1 1 4 ∷ Refused 9 6 ∷ [])
unfolding command_definitions
drop_of_0_truncated = refl

drop_of_255_truncated : commands_of (setup ++ (5 ∷ 0 ∷ 255 ∷ []) ++ replicate 1019 7) ≡ Setup 1 2 1 1 4 ∷ Refused 9 6 ∷ []
unfolding command_definitions
drop_of_255_truncated = refl

-- first, cut at every byte and whole
drop_first : listed (λ n. commands_of (bytes.take (suc n) drop_2)) 11 ≡ replicate 11 (Refused 10 0 ∷ [])
unfolding command_definitions
drop_first = refl

-- a size of 0 is read as 0 (document 02, item 1)
size_0_read_as_0 : commands_of (setup ++ (1 ∷ 1 ∷ 0 ∷ 0 ∷ [])) ≡ Setup 1 2 1 1 4 ∷ Call (header.Take 1 0) 0 0 ∷ []
unfolding command_definitions
size_0_read_as_0 = refl

-- each kind of command by document 01's number, its offset, its command byte, its numbers and what stands beside a call's header
pub record Values : Type 0 where
  pub number : ℕ
  pub offset : ℕ
  pub byte : List ℕ
  pub numbers : List ℕ
  pub beside : List ℕ

values : List Command → List Values
values [] = []
values (c ∷ commands) =
    record { number = command_number_of c; offset = refusal_offset_of c; byte = command_byte c; numbers = numbers_of c; beside = beside_header c } ∷ values
    commands

values_of_all_kinds : values (commands_of (distinct_bytes ++ (6 ∷ [])))
    ≡ record { number = 0; offset = 0; byte = 0 ∷ []; numbers = 3 ∷ 4 ∷ 5 ∷ 6 ∷ 7 ∷ []; beside = [] }
    ∷ record { number = 0; offset = 0; byte = 1 ∷ []; numbers = 8 ∷ 2569 ∷ []; beside = 0 ∷ 0 ∷ [] }
    ∷ record { number = 0; offset = 0; byte = 2 ∷ []; numbers = 11 ∷ 252579084 ∷ []; beside = 0 ∷ 0 ∷ [] }
    ∷ record { number = 0; offset = 0; byte = 3 ∷ []; numbers = 16 ∷ 4625 ∷ 5139 ∷ []; beside = 0 ∷ 0 ∷ [] }
    ∷ record { number = 0; offset = 0; byte = 4 ∷ []; numbers = 21 ∷ 5910 ∷ []; beside = 0 ∷ 0 ∷ [] }
    ∷ record { number = 0; offset = 0; byte = 5 ∷ []; numbers = 24 ∷ 2 ∷ 29 ∷ []; beside = 2 ∷ 29 ∷ [] }
    ∷ record { number = 8; offset = 37; byte = []; numbers = []; beside = [] }
    ∷ []
unfolding values command_number_of refusal_offset_of command_byte numbers_of beside_header command_definitions
values_of_all_kinds = refl

-- a command has the numbers of another only where all five are the same: not of another refusal, one at another offset, another call with the same
-- numbers, other numbers, a drop whose addresses begin elsewhere, a take with an offset beside it
other_command_fails :
    (HasNumbersOf (Refused 8 5) (Refused 9 5) → ⊥) × (HasNumbersOf (Refused 8 5) (Refused 8 6) → ⊥)
    × (HasNumbersOf (Call (header.Take 1 5) 0 0) (Call (header.Free 1 5) 0 0) → ⊥)
    × (HasNumbersOf (Call (header.NamedFree 1 5) 0 0) (Call (header.Take 1 5) 0 0) → ⊥)
    × (HasNumbersOf (Call (header.Take 1 5) 0 0) (Call (header.Take 1 6) 0 0) → ⊥)
    × (HasNumbersOf (Call (header.Drop 1) 2 9) (Call (header.Drop 1) 2 10) → ⊥) × (HasNumbersOf (Refused 8 5) (Setup 1 1 1 1 2) → ⊥)
    × (HasNumbersOf (Call (header.Take 1 5) 0 9) (Call (header.Take 1 5) 0 0) → ⊥)
unfolding command_number_of refusal_offset_of command_byte numbers_of beside_header command_definitions
other_command_fails = (
  λ h. let z = h.number_is in omega arith,
  λ h. let z = h.offset_is in omega arith,
  λ h. let z : ◌≡◌ {A = ℕ} 1 2 = ap (λ (l : List ℕ). get_or l 0 9) h.byte_is in omega arith,
  λ h. let z : ◌≡◌ {A = ℕ} 4 1 = ap (λ (l : List ℕ). get_or l 0 9) h.byte_is in omega arith,
  λ h. let z : ◌≡◌ {A = ℕ} 5 6 = ap (λ (l : List ℕ). get_or l 1 9) h.numbers_are in omega arith,
  λ h. let z : ◌≡◌ {A = ℕ} 9 10 = ap (λ (l : List ℕ). get_or l 2 0) h.numbers_are in omega arith,
  λ h. let z = h.number_is in omega arith,
  λ h. let z : ◌≡◌ {A = ℕ} 9 0 = ap (λ (l : List ℕ). get_or l 1 7) h.beside_is in omega arith,
)

-- ---- the longest record takes longer than all cases above: it is computed where they hold
unfoldable records_hold : Unit {0}
records_hold =
    whole_case also no_byte also unknown_first also unknown_later also take_first also setup_later also free_truncated also commands_of_distinct_bytes
    also addresses_of_distinct_bytes also setup_truncated also setup_twice also free_first also free_first_truncated also take_truncated
    also free_of_one_byte also named_calls_read also named_take_truncated also named_free_truncated also named_take_first also named_free_first
    also last_command_read also past_the_end also names_read_as_they_are also drops_read also drop_of_255_read also drop_truncated also
    drop_of_0_truncated also drop_of_255_truncated
    also drop_first also size_0_read_as_0 also values_of_all_kinds also other_command_fails also tt

-- 60000 bytes are read and 60001 are not, whatever they are
record_of_60001_refused : command_at (replicate 60001 3) 5 ≡ Refused 11 0
unfolding records_hold command_definitions
record_of_60001_refused = refl

record_of_60000_read : command_at (replicate 60000 0) 0 ≡ Setup 0 0 0 0 0
unfolding command_definitions
record_of_60000_read = let before = record_of_60001_refused in refl
