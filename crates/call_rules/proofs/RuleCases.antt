-- Answers, the check's order, setups and the conditions of refusals, in cases that tell them from near misses, by computation. Assumes nothing.
use Rattle.std.specs.Prelude.{Some, None}
use mathlib.Core.Path.{◌≡◌, refl, ap}
use mathlib.Core.Bool.{true, false}
use mathlib.Core.List.{List, [], ◌∷◌, ◌++◌, map}
use Prim.Native.Nat.{ℕ}
use native.Mathlib.Omega.{arith}
use lib.ListN.{replicate, get_or, length}
use Rattle.base_laws.proofs.Stages.{◌also◌}
use Rattle.base_laws.proofs.TestLaws.{true_not_false}
use Rattle.names_rules.specs.Names.{no_names, with_name}
use Rattle.heap_rules.specs.declared.Superblock.{Superblock}
use Rattle.heap_rules.specs.declared.Setup.{Setup}
use Rattle.heap_rules.specs.declared.State.{State}
use Rattle.heap_rules.specs.Table.{unused}
use Rattle.heap_rules.specs.States.{with_names}
use Rattle.heap_rules.proofs.CaseStates.{unnamed_state}
use Rattle.heap_rules.proofs.TableCases.{of, ranked}
use Rattle.call_rules.specs.declared.Outcome.{Outcome}
use Rattle.call_rules.specs.declared.Outcome.TheVariants.{Ready, Address, Moves, Refused}
use Rattle.call_rules.specs.Answers.{After, number_of, values_of, MovesAtMost, refused, checked, is_processor, HasNumberAndValuesOf, PassesIfAccepted}
use Rattle.check_rules.specs.Check.{passes}
use Rattle.call_rules.specs.Setup.{setup_of}
use Rattle.call_rules.specs.Take.{other_places, acquired, acquired_order, unranked_if_empty, next_block, address_of, taken_from, taken_at}
use Rattle.call_rules.specs.Free.{block_of, is_unmapped, is_misaligned, is_live_at, mark_cleared, order_pushed, freed_at}
use Rattle.call_rules.proofs.CallDefinitions.{unchecked_call_definitions, call_definitions}
use Rattle.call_header.specs.declared.CallHeader.{CallHeader}
use Rattle.call_header.specs.declared.CallHeader.TheVariants as header
use Rattle.call_rules.specs.Calls.{Call, Take, Free, NamedTake, NamedFree, Drop, most_moves, call_with, call_of, call_unchecked}
use Rattle.call_rules.proofs.PairStates.{order_before, named_state}
use Rattle.call_rules.proofs.AnswerLaws.{moves_at_most_of_moves, moves_at_most_of_address, moves_at_most_of_refusal}
use Rattle.call_rules.proofs.CheckFirst.{checked_past_check}
use Rattle.call_rules.proofs.AddressRefusalLaws.{free_unchecked_by_address_refusal}

abbrev pub setup_with : ℕ → ℕ → ℕ → ℕ → ℕ → Setup
setup_with processors superblocks spare p q = record { processors = processors; superblocks = superblocks; spare = spare; p = p; q = q }

-- ---- "A refusal carries its number alone, with no address and no moves": the number and the values of each outcome
abbrev pub outcomes : List Outcome
outcomes = Ready ∷ Address 9 ∷ Moves 3 ∷ Refused 7 ∷ []

pub number_and_values_cases : map number_of outcomes ≡ 0 ∷ 0 ∷ 0 ∷ 7 ∷ [] × map values_of outcomes ≡ [] ∷ (9 ∷ []) ∷ (3 ∷ []) ∷ [] ∷ []
unfolding number_of values_of
number_and_values_cases = (refl, refl)

-- ---- "at most q", where q is 7: of a free 7, plain or named, of a drop 7 for each address, of a take none. No number of a call is one of the answers
pub most_moves_cases :
    map (most_moves 7) (Take 3 9 ∷ Free 3 11 ∷ NamedTake 3 5 13 ∷ NamedFree 3 5 ∷ Drop 3 [] ∷ Drop 3 (11 ∷ []) ∷ Drop 3 (11 ∷ 27 ∷ 43 ∷ []) ∷ [])
    ≡ 0 ∷ 7 ∷ 0 ∷ 7 ∷ 0 ∷ 7 ∷ 21 ∷ []
unfolding most_moves
most_moves_cases = refl

-- 8 moves are not at most 7, and 7 are; an answer that reports no moves is held to nothing
pub moves_at_most_cases : (MovesAtMost 7 (Moves 8) → ⊥) × MovesAtMost 7 (Moves 7) × MovesAtMost 0 (Address 9) × MovesAtMost 0 (Refused 7)
moves_at_most_cases = (
  λ h. omega (arith, h 8 refl),
  moves_at_most_of_moves 7 7 (Moves 7) refl (omega arith),
  moves_at_most_of_address 0 9 (Address 9) refl,
  moves_at_most_of_refusal 0 7 (Refused 7) refl,
)

-- a state whose superblock 0 has an owner above P
abbrev pub state_with_wrong_owner : ℕ → State
state_with_wrong_owner q = unnamed_state (setup_with 2 5 1 3 q) (of 3 26 3 ∷ replicate 63 unused)

-- an outcome has the number and the values of another only where both are the same: not of another refusal or none, another address, other moves, nor
-- where only one of the two has a value
pub other_number_fails :
    (HasNumberAndValuesOf (Refused 5) (Refused 6) → ⊥) × (HasNumberAndValuesOf (Refused 4) Ready → ⊥) × (HasNumberAndValuesOf (Moves 0) (Refused 7) → ⊥)
unfolding number_of values_of
other_number_fails = (λ h. let z = h.number_is in omega arith, λ h. let z = h.number_is in omega arith, λ h. let z = h.number_is in omega arith)

pub other_values_fail :
    (HasNumberAndValuesOf (Address 5) (Address 6) → ⊥) × (HasNumberAndValuesOf (Moves 1) (Moves 2) → ⊥) × (HasNumberAndValuesOf Ready (Moves 0) → ⊥)
    × (HasNumberAndValuesOf (Address 0) Ready → ⊥)
unfolding number_of values_of
other_values_fail = (
  λ h. let z : ◌≡◌ {A = ℕ} 5 6 = ap (λ (l : List ℕ). get_or l 0 9) h.values_are in omega arith,
  λ h. let z : ◌≡◌ {A = ℕ} 1 2 = ap (λ (l : List ℕ). get_or l 0 9) h.values_are in omega arith,
  λ h. let z : ◌≡◌ {A = ℕ} 0 1 = ap (λ (l : List ℕ). length l) h.values_are in omega arith,
  λ h. let z : ◌≡◌ {A = ℕ} 1 0 = ap (λ (l : List ℕ). length l) h.values_are in omega arith,
)

-- "An accepted call yields a state that passes", of a setup, a take and a free alike; nothing is asked of a refused one
pub accepted_with_failing_state_fails :
    (PassesIfAccepted Ready (state_with_wrong_owner 7) [] → ⊥) × (PassesIfAccepted (Address 9) (state_with_wrong_owner 7) [] → ⊥)
    × (PassesIfAccepted (Moves 3) (state_with_wrong_owner 7) [] → ⊥)
unfolding number_of call_definitions
accepted_with_failing_state_fails = (
  λ h. true_not_false (passes (state_with_wrong_owner 7) []) (h refl) refl,
  λ h. true_not_false (passes (state_with_wrong_owner 7) []) (h refl) refl,
  λ h. true_not_false (passes (state_with_wrong_owner 7) []) (h refl) refl,
)

pub refused_with_failing_state_holds : PassesIfAccepted (Refused 13) (state_with_wrong_owner 7) []
unfolding number_of
refused_with_failing_state_holds e = absurd (omega arith)

-- the call of each header, its numbers in their order; only a drop has the addresses that are lent beside it
pub call_with_cases :
    map (λ (c : CallHeader). call_with c (7 ∷ 8 ∷ [])) (header.Take 1 2 ∷ header.Free 1 2 ∷ header.NamedTake 1 2 3 ∷ header.NamedFree 1 2 ∷ header.Drop 1
    ∷ []) ≡ Take 1 2 ∷ Free 1 2 ∷ NamedTake 1 2 3 ∷ NamedFree 1 2 ∷ Drop 1 (7 ∷ 8 ∷ []) ∷ []
unfolding call_with
call_with_cases = refl

-- a refusal: its number, the state and the storage as they were
pub refused_case : refused 9 (state_with_wrong_owner 7) (4 ∷ 5 ∷ []) ≡ record {
  answer = record { outcome = Refused 9; state = state_with_wrong_owner 7 };
  order = 4 ∷ 5 ∷ [];
}
refused_case = refl

-- ---- the conditions of refusals. P = 2, N = 5; superblock 3, of class 20 with 5 blocks of 768 bytes, has blocks 0, 2 and 3 live; superblock 4, of class 1
-- with 170 blocks of 24, has block 169 live; superblock 1 is unused; superblocks 4, 0 and 2 are ranked, in this order
abbrev pub refusal_state : State
refusal_state =
    unnamed_state (setup_with 2 5 1 3 7) (ranked 1 26 3 2 ∷ unused ∷ ranked 2 26 1 3 ∷ of 2 20 13
    ∷ record { owner = 1; class = 1; live = 0 ∷ 0 ∷ 2199023255552 ∷ 0 ∷ []; rank = 1; run = 0 } ∷ replicate 59 unused)

-- 2: "0 or above P"
pub is_processor_cases : map (is_processor refusal_state) (0 ∷ 1 ∷ 2 ∷ 3 ∷ []) ≡ false ∷ true ∷ true ∷ false ∷ []
unfolding unchecked_call_definitions
is_processor_cases = refl

-- 5: "address at or past N × 4096, or in an unused superblock": the first and last address of superblocks 0, 1 and 4, those past N, and past the table
pub is_unmapped_cases :
    map (is_unmapped refusal_state) (0 ∷ 4095 ∷ 4096 ∷ 8191 ∷ 8192 ∷ 16384 ∷ 20479 ∷ 20480 ∷ 20481 ∷ 24576 ∷ 262144 ∷ [])
    ≡ false ∷ false ∷ true ∷ true ∷ false ∷ false ∷ false ∷ true ∷ true ∷ true ∷ true ∷ []
unfolding unchecked_call_definitions
is_unmapped_cases = refl

-- the same where superblock N is in use, for N = 1, and where there is no superblock N, for N = 64
abbrev pub all_used : ℕ → State
all_used n = unnamed_state (setup_with 2 n 1 3 7) (replicate 64 (of 1 26 3))

pub is_unmapped_past_N_cases : map (is_unmapped (all_used 1)) (4095 ∷ 4096 ∷ []) ≡ false ∷ true ∷ []
    × map (is_unmapped (all_used 64)) (262143 ∷ 262144 ∷ []) ≡ false ∷ true ∷ []
unfolding unchecked_call_definitions
is_unmapped_past_N_cases = (refl, refl)

-- 6: "offset in the superblock is no multiple of the block size, or block n or above": 12288 is where superblock 3 starts, 16384 superblock 4
pub is_misaligned_cases :
    map (is_misaligned refusal_state) (12288 ∷ 12289 ∷ 13056 ∷ 15360 ∷ 15359 ∷ 16128 ∷ 16384 ∷ 20440 ∷ 20464 ∷ 20441 ∷ [])
    ≡ false ∷ true ∷ false ∷ false ∷ true ∷ true ∷ false ∷ false ∷ true ∷ true ∷ []
unfolding unchecked_call_definitions
is_misaligned_cases = refl

pub block_of_cases : map (block_of refusal_state) (12288 ∷ 13056 ∷ 15360 ∷ 16384 ∷ 20440 ∷ []) ≡ 0 ∷ 1 ∷ 4 ∷ 0 ∷ 169 ∷ []
unfolding unchecked_call_definitions
block_of_cases = refl

-- 7: "the block is not live"
pub is_live_at_cases : map (is_live_at refusal_state) (12288 ∷ 13056 ∷ 13824 ∷ 14592 ∷ 15360 ∷ 16384 ∷ 20440 ∷ []) ≡ true ∷ false ∷ true ∷ true ∷ false
    ∷ false ∷ true ∷ []
unfolding unchecked_call_definitions
is_live_at_cases = refl

-- ---- parts of a take. "Block j of it starts at s × 4096 + j × block size."
pub address_of_cases : address_of 3 20 2 ∷ address_of 63 0 255 ∷ address_of 17 1 169 ∷ [] ≡ 13824 ∷ 262128 ∷ 73688 ∷ []
unfolding unchecked_call_definitions
address_of_cases = refl

-- "From places 2 to 4 it becomes owned by heap i. A superblock with nothing live is renewed for c": with nothing live, and with block 2 live. A
-- renewed one has no rank, another keeps its
pub acquired_cases : acquired 2 20 (ranked 0 23 0 7) ∷ acquired 2 20 (of 255 0 0) ∷ acquired 2 20 (ranked 0 20 4 7) ∷ [] ≡ of 2 20 0 ∷ of 2 20 0
    ∷ ranked 2 20 4 7 ∷ []
unfolding unchecked_call_definitions
acquired_cases = refl

-- a superblock that is renewed leaves the ranking, and the gap closes: superblock 1, with nothing live, does, superblock 0 does not
abbrev pub three_ranked : Superblock → Superblock → Superblock → State
three_ranked a b c = unnamed_state (setup_with 2 3 1 3 7) (a ∷ b ∷ c ∷ replicate 61 unused)

-- superblock 3 has two free blocks, 4 and 1: block 1 is taken and marked live, and every place keeps its number
abbrev pub order_of_3 : List ℕ
order_of_3 = replicate 768 61 ++ 4 ∷ 1 ∷ replicate 254 62

abbrev pub state_with_3 : ℕ → State
state_with_3 marks =
    unnamed_state (setup_with 2 5 1 3 7) (ranked 1 26 3 2 ∷ unused ∷ ranked 2 26 1 3 ∷ of 2 20 marks
    ∷ record { owner = 1; class = 1; live = 0 ∷ 0 ∷ 2199023255552 ∷ 0 ∷ []; rank = 1; run = 0 } ∷ replicate 59 unused)

pub taken_from_case : taken_from 3 refusal_state order_of_3 ≡ record
    { answer = record { outcome = Address 13056; state = state_with_3 15 }; order = order_of_3 }
unfolding unchecked_call_definitions
taken_from_case = refl

-- ---- parts of a free: block 2 of superblock 3 loses its mark, and goes in its place 2
pub mark_cleared_case : mark_cleared refusal_state 13824 ≡ state_with_3 9
unfolding unchecked_call_definitions
mark_cleared_case = refl

pub order_pushed_case : order_pushed refusal_state order_of_3 13824 ≡ replicate 768 61 ++ 4 ∷ 1 ∷ 2 ∷ replicate 253 62
unfolding unchecked_call_definitions
order_pushed_case = refl

-- ---- one superblock: heap 2's, of class 20 with 5 blocks of 768 bytes
abbrev pub one_superblock_state : ℕ → State
one_superblock_state marks = unnamed_state (setup_with 2 1 1 3 7) (of 2 20 marks ∷ replicate 63 unused)

abbrev pub after_with : Outcome → State → List ℕ → After
after_with outcome s order = record { answer = record { outcome = outcome; state = s }; order = order }

-- from place 1 an empty superblock is not renewed, and keeps its rank: its block 0 is the last filled place's
pub taken_at_place_1_case :
    taken_at 2 26 (three_ranked (ranked 2 26 0 1) (ranked 1 20 31 2) unused) (1 ∷ 0 ∷ 9 ∷ []) (Some 0) None
    ≡ after_with (Address 0) (three_ranked (ranked 2 26 1 1) (ranked 1 20 31 2) unused) (1 ∷ 0 ∷ 9 ∷ [])
unfolding unchecked_call_definitions
taken_at_place_1_case = refl

-- "last in first out": blocks 0 and 3 are freed, 3 last, and 3 is the next one taken
pub next_block_cases :
    next_block (one_superblock_state 20) (order_pushed (one_superblock_state 28) (order_pushed (one_superblock_state 29) (1 ∷ 7 ∷ 8 ∷ 9 ∷ []) 0) 2304) 0
    ∷ next_block (one_superblock_state 20) (3 ∷ 0 ∷ 1 ∷ 9 ∷ []) 0 ∷ []
    ≡ 3 ∷ 1 ∷ []
unfolding unchecked_call_definitions
next_block_cases = refl

-- ---- the cases so far take little. Each that follows takes longer, and is computed where they and the one before it hold
unfoldable quick_rules_hold : Unit {0}
quick_rules_hold =
    checked_past_check also free_unchecked_by_address_refusal also number_and_values_cases also most_moves_cases also moves_at_most_cases
    also other_number_fails also other_values_fail
    also accepted_with_failing_state_fails also refused_with_failing_state_holds also call_with_cases also refused_case also is_processor_cases
    also is_unmapped_cases also is_unmapped_past_N_cases also is_misaligned_cases also block_of_cases also is_live_at_cases also address_of_cases
    also acquired_cases also taken_from_case also mark_cleared_case also order_pushed_case also taken_at_place_1_case also next_block_cases also tt

-- ---- outcomes alone, which take little: 2 before 3, 14, 15 and 16; 3 before 17; 17, and 4; a take of 2048 from heap 1's own superblock; 14 before 3,
-- and for a held name; 15 for a name that is not held and for 1024; 16; the first bad address of a drop, and a double
abbrev pub named_unchecked : Call → After
named_unchecked = call_unchecked named_state order_before

pub outcome_cases :
    map (λ (c : Call). (named_unchecked c).answer.outcome)
    (Take 0 65536 ∷ NamedTake 3 5 2049 ∷ NamedFree 0 9 ∷ Drop 0 [] ∷ Take 1 65536 ∷ Take 1 2049 ∷ Take 1 0 ∷ Take 1 2048
    ∷ NamedTake 1 1024 65536 ∷ NamedTake 1 5 2048 ∷ NamedFree 1 9 ∷ NamedFree 1 1024 ∷ Drop 1 [] ∷ Drop 1 (0 ∷ 2049 ∷ 8192 ∷ []) ∷ Drop 1 (0 ∷ 0 ∷ []) ∷ [])
    ≡ map Refused (2 ∷ 2 ∷ 2 ∷ 2 ∷ 3 ∷ 17 ∷ 4 ∷ []) ++ Address 4096 ∷ map Refused (14 ∷ 14 ∷ 15 ∷ 15 ∷ 16 ∷ 6 ∷ 7 ∷ [])
unfolding quick_rules_hold unchecked_call_definitions
outcome_cases = refl

-- a refused drop of the block of name 5, twice: it is live still, and no place is written
pub refused_drop_keeps_cases :
    is_live_at (named_unchecked (Drop 1 (0 ∷ 0 ∷ []))).answer.state 0 ≡ true × (named_unchecked (Drop 1 (0 ∷ 0 ∷ []))).order ≡ order_before
unfolding quick_rules_hold unchecked_call_definitions
refused_drop_keeps_cases = let before = outcome_cases in (refl, refl)

-- the places that go first: heap 0's superblock of class 24 with a block live (place 2), its lowest empty one (3), the lowest unused one (4)
abbrev pub state_offering : Superblock → Superblock → State
state_offering a b = unnamed_state (setup_with 2 3 1 3 7) (unused ∷ a ∷ b ∷ replicate 61 unused)

pub other_places_cases :
    map (other_places 24) (state_offering (of 0 23 0) (of 0 24 1) ∷ state_offering (of 0 23 0) (of 0 24 0) ∷ state_offering (of 0 26 0) (of 0 23 0)
    ∷ state_offering (of 1 24 0) (of 2 24 1) ∷ [])
    ≡ Some 2 ∷ Some 2 ∷ Some 1 ∷ Some 0 ∷ []
unfolding unchecked_call_definitions
other_places_cases = let before = refused_drop_keeps_cases in refl

-- a free of block 3, with the moves of its heap and class: none. The superblock is the last freed into
pub freed_at_case :
    freed_at (one_superblock_state 29) (1 ∷ 8 ∷ 9 ∷ []) 2304
    ≡ after_with (Moves 0) (unnamed_state (setup_with 2 1 1 3 7) (ranked 2 20 21 1 ∷ replicate 63 unused)) (1 ∷ 3 ∷ 9 ∷ [])
unfolding unchecked_call_definitions
freed_at_case = let before = other_places_cases in refl

-- in heap 0 it is so too, and one that was ranked follows
pub freed_in_heap_0_case :
    freed_at (three_ranked (of 0 20 29) (ranked 1 20 31 1) unused) (1 ∷ 8 ∷ 9 ∷ []) 2304 ≡ after_with (Moves 0)
    (three_ranked (ranked 0 20 21 1) (ranked 1 20 31 2) unused) (1 ∷ 3 ∷ 9 ∷ [])
unfolding unchecked_call_definitions
freed_in_heap_0_case = let before = freed_at_case in refl

-- a free that leaves heap 2, the last, with 4 of 10 blocks live: its emptiest superblock passes to heap 0, one move; heap 1's of the class stays
pub freed_with_move_case :
    freed_at (three_ranked (of 2 20 31) (of 2 20 0) (of 1 20 1)) (8 ∷ 9 ∷ []) 2304
    ≡ after_with (Moves 1) (three_ranked (ranked 2 20 23 1) (of 0 20 0) (of 1 20 1)) (3 ∷ 9 ∷ [])
unfolding unchecked_call_definitions
freed_with_move_case = let before = freed_in_heap_0_case in refl

-- heap 2 acquires heap 0's superblock 1, in a state whose name 0 holds block 0 of superblock 0: empty, it is renewed for class 26 and leaves the
-- ranking, which closes its gap, and its block 0 is taken; with block 0 live it keeps its class and its rank, and block 1 is taken. The name stays
abbrev pub name_0_held : State → State
name_0_held s = with_names s (with_name no_names 0 0)

pub taken_from_other_cases :
    taken_at 2 26 (name_0_held (three_ranked (ranked 1 20 31 2) (ranked 0 20 0 1) unused)) (replicate 512 9) None (Some 1)
    ∷ taken_at 2 26 (name_0_held (three_ranked (ranked 1 20 31 2) (ranked 0 26 1 1) unused)) (replicate 256 9 ++ 1 ∷ 9 ∷ []) None (Some 1) ∷ []
    ≡ after_with (Address 4096) (name_0_held (three_ranked (ranked 1 20 31 1) (of 2 26 1) unused)) (replicate 256 9 ++ 1 ∷ 0 ∷ replicate 254 9)
    ∷ after_with (Address 6144) (name_0_held (three_ranked (ranked 1 20 31 2) (ranked 2 26 3 1) unused)) (replicate 256 9 ++ 1 ∷ 9 ∷ []) ∷ []
unfolding unchecked_call_definitions
taken_from_other_cases = let before = freed_with_move_case in refl

-- ---- a setup. P = 2, N = 5, K = 1, p/q = 3/7, and 1283 order places, which all hold something
abbrev pub used_order : ℕ → List ℕ
used_order k = replicate 1279 61 ++ replicate k 62

abbrev pub accepted_with : List ℕ → After
accepted_with order =
    record {
      answer = record {
        outcome = Ready;
        state = unnamed_state (record { processors = 2; superblocks = 5; spare = 1; p = 3; q = 7 })
            (replicate 64 (record { owner = 255; class = 0; live = 0 ∷ 0 ∷ 0 ∷ 0 ∷ []; rank = 0; run = 0 }));
      };
      order = order;
    }

-- "five zeros and 64 unused superblocks", and the storage as it was
abbrev pub refused_setup_with : ℕ → List ℕ → After
refused_setup_with r order =
    record {
      answer = record {
        outcome = Refused r;
        state = unnamed_state (record { processors = 0; superblocks = 0; spare = 0; p = 0; q = 0 })
            (replicate 64 (record { owner = 255; class = 0; live = 0 ∷ 0 ∷ 0 ∷ 0 ∷ []; rank = 0; run = 0 }));
      };
      order = order;
    }

-- 1 before 12: the numbers fail, with storage enough and without; then 1279 places for N × 256 = 1280
pub setup_refused_cases :
    setup_of (setup_with 2 5 1 7 7) (used_order 4) ∷ setup_of (setup_with 2 5 1 7 7) (used_order 0) ∷ setup_of (setup_with 2 5 1 3 7) (used_order 0) ∷ []
    ≡ refused_setup_with 1 (used_order 4) ∷ refused_setup_with 1 (used_order 0) ∷ refused_setup_with 12 (used_order 0) ∷ []
unfolding call_definitions
setup_refused_cases = let before = taken_from_other_cases in refl

-- "put n - 1 - j in place j for j below n": superblock 1 with nothing live, of the class or of another, and with block 2 live
pub acquired_order_cases :
    map (λ (b : Superblock). acquired_order 20 1 b (used_order 4)) (of 0 20 0 ∷ of 0 26 0 ∷ of 0 20 4 ∷ [])
    ≡ (replicate 256 61 ++ 4 ∷ 3 ∷ 2 ∷ 1 ∷ 0 ∷ replicate 1018 61 ++ replicate 4 62)
    ∷ (replicate 256 61 ++ 4 ∷ 3 ∷ 2 ∷ 1 ∷ 0 ∷ replicate 1018 61 ++ replicate 4 62) ∷ used_order 4 ∷ []
unfolding unchecked_call_definitions
acquired_order_cases = let before = setup_refused_cases in refl

-- 1280 places are enough; of 1283 the last three keep what they had
pub setup_accepted_cases :
    setup_of (setup_with 2 5 1 3 7) (used_order 1) ∷ setup_of (setup_with 2 5 1 3 7) (used_order 4) ∷ [] ≡ accepted_with (replicate 1280 0)
    ∷ accepted_with (replicate 1280 0 ++ 62 ∷ 62 ∷ 62 ∷ []) ∷ []
unfolding call_definitions
setup_accepted_cases = let before = acquired_order_cases in refl

abbrev pub after_check : After
after_check = accepted_with []

-- ---- "Take or free: 13 for setup numbers, 12, the rest of 13": q = 2 and storage short, storage short, and storage enough
pub checked_cases :
    checked (state_with_wrong_owner 2) (used_order 0) after_check ∷ checked (state_with_wrong_owner 7) (used_order 0) after_check
    ∷ checked (state_with_wrong_owner 7) (used_order 1) after_check ∷ []
    ≡ refused 13 (state_with_wrong_owner 2) (used_order 0) ∷ refused 12 (state_with_wrong_owner 7) (used_order 0)
    ∷ refused 13 (state_with_wrong_owner 7) (used_order 1) ∷ []
unfolding call_definitions
checked_cases = let before = setup_accepted_cases in refl

-- each call is checked first: none is made on that state, with its own refusals before it
pub each_call_checked_case :
    map (λ (c : Call). (call_of (state_with_wrong_owner 7) (used_order 1) c).answer.outcome) (Take 0 16 ∷ Free 0 0 ∷ NamedTake 0 5 16 ∷ NamedFree 0 5
    ∷ Drop 0 [] ∷ []) ≡ replicate 5 (Refused 13)
unfolding call_definitions
each_call_checked_case = let before = checked_cases in refl

pub unranked_if_empty_cases :
    map (λ (k : ℕ). unranked_if_empty k (three_ranked (ranked 0 20 4 1) (ranked 0 23 0 2) (ranked 1 20 31 3))) (1 ∷ 0 ∷ [])
    ≡ three_ranked (ranked 0 20 4 1) (of 0 23 0) (ranked 1 20 31 2) ∷ three_ranked (ranked 0 20 4 1) (ranked 0 23 0 2) (ranked 1 20 31 3) ∷ []
unfolding unchecked_call_definitions
unranked_if_empty_cases = let before = each_call_checked_case in refl

-- what the cases of the other parts unfold
unfoldable pub rules_hold : Unit {0}
rules_hold = unranked_if_empty_cases also tt
