-- The parts of calls with long blocks (document 02, item 7) in cases that tell the rules from near misses, by computation. Assumes nothing.
use Rattle.std.specs.Prelude.{Some, None}
use mathlib.Core.Path.{◌≡◌, refl}
use mathlib.Core.Bool.{true, false}
use mathlib.Core.List.{List, [], ◌∷◌, map}
use Prim.Native.Nat.{ℕ}
use lib.ListN.{replicate}
use Rattle.base_laws.proofs.Stages.{◌also◌}
use Rattle.names_rules.specs.Names.{no_names, with_name}
use Rattle.heap_rules.specs.declared.Superblock.{Superblock}
use Rattle.heap_rules.specs.declared.State.{State}
use Rattle.heap_rules.specs.Table.{unused, run_part}
use Rattle.heap_rules.specs.States.{with_names}
use Rattle.heap_rules.proofs.CaseStates.{unnamed_state}
use Rattle.heap_rules.proofs.TableCases.{ranked}
use Rattle.call_rules.specs.declared.Outcome.TheVariants.{Address, Moves}
use Rattle.call_rules.specs.Answers.{refused}
use Rattle.call_rules.specs.LongBlocks.{each_of_run, run_taken, long_taken_at, run_freed}
use Rattle.call_rules.specs.Free.{is_run_start, is_misaligned, is_live_at, address_refusal, order_pushed, block_number_at, block_freed, freed_at}
use Rattle.call_rules.specs.Named.{held_address}
use Rattle.call_rules.specs.Drop.{Pair, first_address_refusal, is_touched, touched_pairs}
use Rattle.call_rules.proofs.CallDefinitions.{unchecked_call_definitions}
use Rattle.call_rules.proofs.RuleCases.{setup_with, after_with}
use Rattle.call_rules.proofs.NamedCases.{named_parts_hold}

-- P = 2, N = 6: superblocks 0 and 4 are heap 1's and heap 2's, of class 26, with these ranks; between them stand three, and 5 is unused
abbrev pub around : ℕ → ℕ → Superblock → Superblock → Superblock → State
around r t a b c = unnamed_state (setup_with 2 6 1 3 7) (ranked 1 26 3 r ∷ a ∷ b ∷ c ∷ ranked 2 26 1 t ∷ replicate 59 unused)

-- superblock 2 is heap 0's, empty, and the second in the ranking
abbrev pub before_run : State
before_run = around 1 3 unused (ranked 0 23 0 2) unused

-- "They get owner 254, class field 0, no marks and no rank", and "The first carries the run's length, every other superblock 0"; the gap in the
-- ranking is closed
abbrev pub with_run : State
with_run = around 1 2 (run_part 3) (run_part 0) (run_part 0)

-- "a free makes the whole run unused": the ranks are as they were
abbrev pub run_gone : State
run_gone = around 1 2 unused unused unused

-- order places of superblocks 0, 1 and 2, which all hold something
abbrev pub used_places : List ℕ
used_places = replicate 768 61

-- each superblock of the run, from its first to its last and no other
pub each_of_run_cases : map (λ (n : ℕ). (each_of_run (λ m s. with_names s (m ∷ s.names)) 4 n (with_names with_run [])).names) (0 ∷ 1 ∷ 3 ∷ []) ≡ [] ∷ (4 ∷ [])
    ∷ (6 ∷ 5 ∷ 4 ∷ []) ∷ []
unfolding named_parts_hold unchecked_call_definitions
each_of_run_cases = refl

-- three from 1 on, and one of them; the others stay
pub run_freed_cases : run_freed 1 3 with_run ∷ run_freed 3 1 (around 1 2 (run_part 2) (run_part 0) (run_part 1)) ∷ [] ≡ run_gone
    ∷ around 1 2 (run_part 2) (run_part 0) unused ∷ []
unfolding named_parts_hold unchecked_call_definitions
run_freed_cases = refl

-- ---- addresses: the start of the run; behind it by 1, by 16, as a block of class 0 would be, and by 2048; the starts of its other superblocks, and
-- its last address; then the start of superblock 4
abbrev pub addresses_in_run : List ℕ
addresses_in_run = 4096 ∷ 4097 ∷ 4112 ∷ 6144 ∷ 8192 ∷ 12288 ∷ 16383 ∷ 16384 ∷ []

-- "any other address in it is off-block"
pub is_misaligned_in_run_cases :
    map (is_misaligned with_run) addresses_in_run ≡ false ∷ true ∷ true ∷ true ∷ true ∷ true ∷ true ∷ false ∷ []
    × map (is_run_start with_run) addresses_in_run ≡ true ∷ replicate 7 false
unfolding named_parts_hold unchecked_call_definitions
is_misaligned_in_run_cases = (refl, refl)

-- the start is a live block's, and inner addresses are 6, never 7; superblock 5 is unused
pub address_refusal_in_run_cases : is_live_at with_run 4096 ≡ true × map (address_refusal with_run) addresses_in_run ≡ 0 ∷ 6 ∷ 6 ∷ 6 ∷ 6 ∷ 6 ∷ 6 ∷ 0 ∷ []
    × address_refusal with_run 20480 ≡ 5
unfolding named_parts_hold unchecked_call_definitions
address_refusal_in_run_cases = (refl, refl, refl)

-- ---- a free: no place is written, and "Its free line has moved 0". Name 7 is of the run, and let go; name 8, of block 0 of superblock 0, stays
abbrev pub names_7_and_8 : List ℕ
names_7_and_8 = with_name (with_name no_names 8 0) 7 256

pub order_pushed_of_run_case : order_pushed with_run used_places 4096 ≡ used_places
unfolding named_parts_hold unchecked_call_definitions
order_pushed_of_run_case = refl

pub run_named_cases : block_number_at with_run 4096 ≡ 256 × held_address (with_names with_run names_7_and_8) 7 ≡ 4096
unfolding named_parts_hold unchecked_call_definitions
run_named_cases = (refl, refl)

-- ---- a drop: the start twice is 5 the second time, as the run is unused then; an inner address is 6 before the start and 5 after it; the start, and
-- a block of superblock 4
pub first_refusal_in_run_cases :
    map (first_address_refusal with_run) ((4096 ∷ 4096 ∷ []) ∷ (8192 ∷ 4096 ∷ []) ∷ (4096 ∷ 8192 ∷ []) ∷ (4096 ∷ 4112 ∷ []) ∷ (4096 ∷ 16384 ∷ []) ∷ []) ≡ 5
    ∷ 6 ∷ 5 ∷ 5 ∷ 0 ∷ []
unfolding named_parts_hold unchecked_call_definitions
first_refusal_in_run_cases = refl

-- a run is of no heap and class
abbrev heap_2_class_26 : Pair
heap_2_class_26 = record { heap = 2; class = 26 }

pub touched_beside_run_cases : map (λ (l : List ℕ). touched_pairs (is_touched with_run l) 2) ((4096 ∷ []) ∷ (4096 ∷ 16384 ∷ []) ∷ []) ≡ []
    ∷ (heap_2_class_26 ∷ []) ∷ []
unfolding named_parts_hold unchecked_call_definitions
touched_beside_run_cases = refl

-- ---- the cases so far take little. Each that follows takes longer, and is computed where they and the one before it hold
unfoldable quick_runs_hold : Unit {0}
quick_runs_hold =
    each_of_run_cases also run_freed_cases also is_misaligned_in_run_cases also address_refusal_in_run_cases
    also order_pushed_of_run_case also run_named_cases also first_refusal_in_run_cases also touched_beside_run_cases also tt

-- three superblocks from 1 on, name 8 held as before; and one alone, which carries 1
pub run_taken_cases : run_taken 1 3 (with_names before_run (with_name no_names 8 0)) ∷ run_taken 2 1 before_run
    ∷ [] ≡ with_names with_run (with_name no_names 8 0) ∷ around 1 2 unused (run_part 1) unused ∷ []
unfolding quick_runs_hold unchecked_call_definitions
run_taken_cases = refl

-- "The block's address is the start of the run", and order places "keep what they had"; 17 where there is no run
pub long_taken_at_cases : map (long_taken_at 3 before_run used_places) (Some 1 ∷ None ∷ []) ≡ after_with (Address 4096) with_run used_places
    ∷ refused 17 before_run used_places ∷ []
unfolding unchecked_call_definitions
long_taken_at_cases = let before = run_taken_cases in refl

pub long_block_freed_case : block_freed (with_names with_run names_7_and_8) 4096 ≡ with_names run_gone (with_name no_names 8 0)
unfolding unchecked_call_definitions
long_block_freed_case = let before = long_taken_at_cases in refl

pub long_freed_at_case : freed_at with_run used_places 4096 ≡ after_with (Moves 0) run_gone used_places
unfolding unchecked_call_definitions
long_freed_at_case = let before = long_block_freed_case in refl

unfoldable pub run_parts_hold : Unit {0}
run_parts_hold = long_freed_at_case also tt
