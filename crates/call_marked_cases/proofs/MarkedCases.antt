-- The cases marked in document 01, "Edges", with size 0 as document 02, item 1, changes it, and size 2049 as item 7 does, as one theorem over one list.
-- Assumes nothing.
use mathlib.Core.Path.{◌≡◌, refl, ap, ◌∙◌}
use mathlib.Core.Bool.{true}
use mathlib.Core.List.{List, [], ◌∷◌, ◌++◌, map}
use Prim.Native.Nat.{ℕ, ◌+◌, ◌-◌, ◌^◌}
use lib.ListN.{length, get_or, replicate}
use Rattle.heap_rules.specs.declared.Superblock.{Superblock}
use Rattle.heap_rules.specs.declared.State.{State}
use Rattle.heap_rules.specs.Table.{unused, superblock_at}
use Rattle.heap_rules.proofs.CaseStates.{unnamed_state}
use Rattle.heap_laws.proofs.UsedPartLaws.{used_part_definitions}
use Rattle.call_rules.specs.declared.Outcome.{Outcome}
use Rattle.call_rules.specs.declared.Outcome.TheVariants.{Address, Moves, Refused}
use Rattle.call_rules.specs.Answers.{After}
use Rattle.call_rules.specs.Calls.{Call, Take, Free, call_of, call_unchecked}
use Rattle.call_rules.proofs.CallDefinitions.{unchecked_call_definitions}
use Rattle.call_laws.proofs.UsedPartCallLaws.{used_part_passes, calls_past_used_part}

-- a call on a state and storage; its outcome, and then superblock 0's owner, its class, the length of the run of which it is the first, and what stands
-- in its first order place
pub record MarkedCase : Type 0 where
  pub state : State
  pub order : List ℕ
  pub call : Call
  pub outcome : Outcome
  pub owner_after : ℕ
  pub class_after : ℕ
  pub run_after : ℕ
  pub place_after : ℕ

-- a superblock of heap 1 and class c with these marks
abbrev pub heap_1_superblock : ℕ → List ℕ → Superblock
heap_1_superblock c live = record { owner = 1; class = c; live = live; rank = 0; run = 0 }

-- heap 1 with these superblocks: P = 1, K = 1, p/q = 1/4, and as many superblocks as there are
abbrev pub state_with : List Superblock → State
state_with table =
    unnamed_state (record { processors = 1; superblocks = length table; spare = 1; p = 1; q = 4 }) (table ++ replicate (64 - length table) unused)

-- one unused superblock
abbrev pub one_unused_state : State
one_unused_state = state_with (unused ∷ [])

-- "size 1, 16: class 0; 17: 1; 64: 6; 65, 80: 7; 81: 8; 2048: 26", and "the marked case for 0 changes to class 0": a take of the size renews
-- superblock 0 for the class, so that its first place holds the class's last block
abbrev pub class_case : ℕ → ℕ → ℕ → MarkedCase
class_case size c last =
    record {
      state = one_unused_state;
      order = replicate 256 0;
      call = Take 1 size;
      outcome = Address 0;
      owner_after = 1;
      class_after = c;
      run_after = 0;
      place_after = last;
    }

-- "2049: refusal 3", but "marked size 2049 becomes a run of one" (document 02, item 7): its order places "keep what they had"
abbrev pub run_of_one_case : ℕ → MarkedCase
run_of_one_case size =
    record {
      state = one_unused_state;
      order = replicate 256 9;
      call = Take 1 size;
      outcome = Address 0;
      owner_after = 254;
      class_after = 0;
      run_after = 1;
      place_after = 9;
    }

-- "Class 1 in superblock 0": all its 170 blocks live, so that a block that is freed goes in the first place
abbrev pub all_live_state : State
all_live_state = state_with (heap_1_superblock 1 ((2 ^ 64 - 1) ∷ (2 ^ 64 - 1) ∷ (2 ^ 42 - 1) ∷ 0 ∷ []) ∷ [])

-- "address 4056 is block 169"
abbrev pub last_block_case : MarkedCase
last_block_case =
    record {
      state = all_live_state;
      order = replicate 256 0;
      call = Free 1 4056;
      outcome = Moves 0;
      owner_after = 1;
      class_after = 1;
      run_after = 0;
      place_after = 169;
    }

-- "4080 is refusal 6"
abbrev pub misaligned_case : MarkedCase
misaligned_case =
    record {
      state = all_live_state;
      order = replicate 256 0;
      call = Free 1 4080;
      outcome = Refused 6;
      owner_after = 1;
      class_after = 1;
      run_after = 0;
      place_after = 0;
    }

-- "p/q = 1/4, K = 1, heap 1 class 16 with live counts 7, 7, 7, 8, 8, 8: freeing from an 8 moves two superblocks"
abbrev pub sevens_and_eights : State
sevens_and_eights =
    let seven : Superblock = heap_1_superblock 16 ((2 ^ 7 - 1) ∷ 0 ∷ 0 ∷ 0 ∷ []) in
    let eight : Superblock = heap_1_superblock 16 ((2 ^ 8 - 1) ∷ 0 ∷ 0 ∷ 0 ∷ []) in
    state_with (seven ∷ seven ∷ seven ∷ eight ∷ eight ∷ eight ∷ [])

abbrev pub sevens_and_eights_order : List ℕ
sevens_and_eights_order =
    let three : List ℕ = 9 ∷ 8 ∷ 7 ∷ replicate 253 0 in
    let two : List ℕ = 9 ∷ 8 ∷ replicate 254 0 in
    three ++ three ++ three ++ two ++ two ++ two

abbrev pub two_moves_case : ℕ → MarkedCase
two_moves_case address =
    record {
      state = sevens_and_eights;
      order = sevens_and_eights_order;
      call = Free 1 address;
      outcome = Moves 2;
      owner_after = 0;
      class_after = 16;
      run_after = 0;
      place_after = 9;
    }

abbrev pub marked_cases : List MarkedCase
marked_cases =
    class_case 0 0 255 ∷ class_case 1 0 255 ∷ class_case 16 0 255 ∷ class_case 17 1 169 ∷ class_case 64 6 63 ∷ class_case 65 7 50 ∷ class_case 80 7 50
    ∷ class_case 81 8 41
    ∷ class_case 2048 26 1 ∷ run_of_one_case 2049 ∷ last_block_case ∷ misaligned_case ∷ two_moves_case 12288 ∷ two_moves_case 20480 ∷ []

abbrev pub seen : After → Outcome × ℕ × ℕ × ℕ × ℕ
seen after =
    let b : Superblock = superblock_at after.answer.state 0 in
    (after.answer.outcome, b.owner, b.class, b.run, get_or after.order 0 0)

abbrev pub result_of : MarkedCase → Outcome × ℕ × ℕ × ℕ × ℕ
result_of k = seen (call_of k.state k.order k.call)

-- the rules give each case its outcome, owner, class, run and place: its state passes the check, and the call behind it gives that
marked_cases_pass : map (λ (k : MarkedCase). used_part_passes k.state k.order) marked_cases ≡ map (λ (k : MarkedCase). true) marked_cases
unfolding used_part_definitions
marked_cases_pass = refl

marked_cases_behind_check : map (λ (k : MarkedCase). seen (call_unchecked k.state k.order k.call)) marked_cases
    ≡ map (λ (k : MarkedCase). (k.outcome, k.owner_after, k.class_after, k.run_after, k.place_after)) marked_cases
unfolding unchecked_call_definitions
marked_cases_behind_check = refl

pub marked_cases_are_computed : map result_of marked_cases
    ≡ map (λ (k : MarkedCase). (k.outcome, k.owner_after, k.class_after, k.run_after, k.place_after)) marked_cases
marked_cases_are_computed =
    ap (map seen)
    (calls_past_used_part (λ (k : MarkedCase). k.state) (λ (k : MarkedCase). k.order) (λ (k : MarkedCase). k.call) marked_cases refl refl marked_cases_pass)
    ∙ marked_cases_behind_check
