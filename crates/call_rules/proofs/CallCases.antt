-- Whole calls behind the check: which refusal comes first, and what accepted takes, frees and drops leave; and the check before them. They are computed
-- where the cases of the parts hold. By computation. Assumes nothing.
use mathlib.Core.Path.{◌≡◌, refl}
use mathlib.Core.List.{List, [], ◌∷◌, ◌++◌, map}
use lib.ListN.{replicate}
use Prim.Native.Nat.{ℕ}
use Rattle.base_laws.proofs.Stages.{◌also◌}
use Rattle.names_rules.specs.Names.{no_names, with_name}
use Rattle.heap_rules.specs.declared.State.{State}
use Rattle.heap_rules.specs.Table.{unused}
use Rattle.heap_rules.specs.States.{with_names}
use Rattle.heap_rules.proofs.CaseStates.{unnamed_state}
use Rattle.heap_rules.proofs.TableCases.{of, ranked}
use Rattle.call_rules.specs.declared.Outcome.TheVariants.{Address, Moves}
use Rattle.call_rules.specs.Answers.{After, refused, checked}
use Rattle.call_rules.specs.Take.{take_unchecked}
use Rattle.call_rules.specs.Drop.{drop_moves}
use Rattle.call_rules.specs.Calls.{Call, Take, Free, NamedTake, NamedFree, Drop, call_unchecked}
use Rattle.call_rules.proofs.CallDefinitions.{unchecked_call_definitions, call_definitions}
use Rattle.call_rules.proofs.CheckFirst.{checked_past_check}
use Rattle.call_rules.proofs.RuleCases.{setup_with, after_with, after_check, named_unchecked}
use Rattle.call_rules.proofs.PairStates.{pair_state, ranked_pair_state, pair_order, state_before, order_before, two_names, named_state}
use Rattle.call_rules.proofs.DropCases.{page_state, page}
use Rattle.call_rules.proofs.LongBlockCases.{before_run, with_run, run_gone, used_places, names_7_and_8}
use Rattle.call_rules.proofs.PartsHold.{parts_hold}

-- ---- drops, on the same state: 2 before 16, and before a bad address; 16; refused with the first bad address's number, nothing freed, no place written, no
-- name let go
pub refused_drop_cases :
    map named_unchecked (Drop 0 [] ∷ Drop 3 (8192 ∷ []) ∷ Drop 1 [] ∷ Drop 1 (0 ∷ 0 ∷ []) ∷ Drop 1 (0 ∷ 8192 ∷ []) ∷ Drop 2 (2049 ∷ 0 ∷ []) ∷ [])
    ≡ refused 2 named_state order_before ∷ refused 2 named_state order_before ∷ refused 16 named_state order_before ∷ refused 7 named_state order_before
    ∷ refused 5 named_state order_before ∷ refused 6 named_state order_before ∷ []
unfolding parts_hold unchecked_call_definitions
refused_drop_cases = refl

-- ---- a named free: 2 before 15; 15 for a name that is not held and for 1024; a free of name 5's block lets it go and keeps name 1022,
-- and a plain free of that address does the same
pub named_free_cases :
    map named_unchecked (NamedFree 0 9 ∷ NamedFree 1 9 ∷ NamedFree 1 1024 ∷ NamedFree 1 5 ∷ Free 1 0 ∷ NamedFree 2 1022 ∷ [])
    ≡ refused 2 named_state order_before ∷ refused 15 named_state order_before ∷ refused 15 named_state order_before
    ∷ after_with (Moves 0) (with_names (ranked_pair_state 0 1 2 2) (with_name no_names 1022 257)) (pair_order 1 0 0 67)
    ∷ after_with (Moves 0) (with_names (ranked_pair_state 0 1 2 2) (with_name no_names 1022 257)) (pair_order 1 0 0 67)
    ∷ after_with (Moves 0) (with_names (pair_state 1 0) (with_name no_names 5 0)) (pair_order 1 66 0 1) ∷ []
unfolding parts_hold unchecked_call_definitions
named_free_cases = let before = refused_drop_cases in refl

-- ---- plain calls
abbrev pub unchecked : Call → After
unchecked = call_unchecked state_before order_before

-- 2 before 3; 3 before 17 for a size of more than 16 bits; 17 for a long size, in place of 4; 4 where no place offers a superblock for size 0; a take
-- of 2048 from heap 1's own superblock; 2 before 5; 5 before 6, where superblock 2 is unused; 6 before 7, where block 1 is not live; 7; and processor
-- 1 frees a block of heap 2, whose superblock stays heap 2's and goes to the front of the ranking
pub unchecked_call_cases :
    map unchecked (Take 0 65536 ∷ Take 1 65536 ∷ Take 1 2049 ∷ Take 1 65535 ∷ Take 1 0 ∷ Take 1 2048 ∷ Free 3 8192 ∷ Free 1 8193 ∷ Free 1 2049
    ∷ Free 1 2048 ∷ Free 1 0 ∷ [])
    ≡ refused 2 state_before order_before ∷ refused 3 state_before order_before ∷ refused 17 state_before order_before
    ∷ refused 17 state_before order_before ∷ refused 4 state_before order_before ∷ after_with (Address 4096) (pair_state 1 3) order_before
    ∷ refused 2 state_before order_before ∷ refused 5 state_before order_before
    ∷ refused 6 state_before order_before ∷ refused 7 state_before order_before ∷ after_with (Moves 0) (ranked_pair_state 0 1 2 2) (pair_order 1 0 0 67) ∷ []
unfolding parts_hold unchecked_call_definitions
unchecked_call_cases = let before = named_free_cases in refl

-- ---- a named take: 2 before 14, 14 before 17 for a held name, and before 3 for 1024; 3, 17, and 4 for size 0, bind none; an accepted one binds, for the
-- first and the last free name
pub named_take_cases :
    map named_unchecked (NamedTake 3 5 2049 ∷ NamedTake 1 5 2049 ∷ NamedTake 1 1024 65536 ∷ NamedTake 1 1022 2048 ∷ NamedTake 1 7 65536
    ∷ NamedTake 1 7 2049 ∷ NamedTake 1 7 0 ∷ NamedTake 1 0 2048 ∷ NamedTake 1 1023 2048 ∷ [])
    ≡ refused 2 named_state order_before ∷ refused 14 named_state order_before ∷ refused 14 named_state order_before ∷ refused 14 named_state order_before
    ∷ refused 3 named_state order_before ∷ refused 17 named_state order_before ∷ refused 4 named_state order_before
    ∷ after_with (Address 4096) (with_names (pair_state 1 3) (with_name two_names 0 256)) order_before
    ∷ after_with (Address 4096) (with_names (pair_state 1 3) (with_name two_names 1023 256)) order_before ∷ []
unfolding parts_hold unchecked_call_definitions
named_take_cases = let before = unchecked_call_cases in refl

-- ---- the cases so far tell which refusal comes first. What follows is computed where they hold, as they are where the cases of the parts do
unfoldable refusals_hold : Unit {0}
refusals_hold = named_take_cases also tt

-- "Size 0 now takes class 0": sizes 0, 1 and 16 each get block 9 of heap 1's superblock 1, of class 0, with block 0 live; place 254 is its last filled
abbrev pub class_0_state : ℕ → State
class_0_state marks = unnamed_state (setup_with 2 2 1 3 7) (of 2 26 1 ∷ of 1 0 marks ∷ replicate 62 unused)

abbrev pub class_0_order : List ℕ
class_0_order = replicate 510 77 ++ 9 ∷ 78 ∷ []

pub size_0_cases : map (take_unchecked (class_0_state 1) class_0_order 1) (0 ∷ 1 ∷ 16 ∷ [])
    ≡ replicate 3 (after_with (Address 4240) (class_0_state 513) class_0_order)
unfolding refusals_hold unchecked_call_definitions
size_0_cases = refl

-- a plain take keeps the names, and so do refused calls
pub plain_call_cases :
    map named_unchecked (Take 1 2048 ∷ Take 1 2049 ∷ Free 1 2048 ∷ [])
    ≡ after_with (Address 4096) (with_names (pair_state 1 3) two_names) order_before ∷ refused 17 named_state order_before
    ∷ refused 7 named_state order_before ∷ []
unfolding refusals_hold unchecked_call_definitions
plain_call_cases = refl

-- ---- long blocks
abbrev long_unchecked : State → Call → After
long_unchecked s = call_unchecked s used_places

-- 2 before 17; three superblocks for 8193 and for 12288 bytes, for processor 2 as for 1; 17 for four, in place of 4, though heap 0 has an empty
-- superblock and others are unused, and for 65535 bytes; a named take binds the run
pub long_take_cases :
    map (long_unchecked before_run) (Take 0 16384 ∷ Take 1 8193 ∷ Take 2 12288 ∷ Take 1 12289 ∷ Take 1 65535 ∷ NamedTake 1 7 12288 ∷ NamedTake 1 7 12289 ∷ [])
    ≡ refused 2 before_run used_places ∷ after_with (Address 4096) with_run used_places ∷ after_with (Address 4096) with_run used_places
    ∷ refused 17 before_run used_places ∷ refused 17 before_run used_places
    ∷ after_with (Address 4096) (with_names with_run (with_name no_names 7 256)) used_places ∷ refused 17 before_run used_places ∷ []
unfolding refusals_hold unchecked_call_definitions
long_take_cases = refl

-- by its address and by its name; the start of its second superblock is 6, and so is where a block of class 0 would start
pub long_free_cases :
    map (long_unchecked (with_names with_run names_7_and_8)) (Free 1 4096 ∷ NamedFree 2 7 ∷ Free 1 8192 ∷ Free 1 4112 ∷ [])
    ≡ after_with (Moves 0) (with_names run_gone (with_name no_names 8 0)) used_places
    ∷ after_with (Moves 0) (with_names run_gone (with_name no_names 8 0)) used_places
    ∷ refused 6 (with_names with_run names_7_and_8) used_places ∷ refused 6 (with_names with_run names_7_and_8) used_places ∷ []
unfolding refusals_hold unchecked_call_definitions
long_free_cases = refl

-- ---- drops
-- superblock 4 passes on from heap 1, superblock 3, which the frees have emptied, from heap 2, and none from heap 3: two moves in all
pub drop_moves_case :
    drop_moves page_state page
    ≡ record {
      moves = 2;
      state = with_names (unnamed_state (setup_with 3 8 1 1 4) (ranked 2 26 1 5 ∷ ranked 2 26 3 0 ∷ ranked 2 26 1 0 ∷ ranked 0 26 0 1 ∷ ranked 0 23 1 0
          ∷ ranked 1 23 1 3 ∷ ranked 0 26 0 4 ∷ ranked 3 26 2 2 ∷ replicate 56 unused)) (with_name no_names 6 1024);
    }
unfolding refusals_hold unchecked_call_definitions
drop_moves_case = refl

-- a drop of one address is its free; one of both blocks lets both names go and fills a place of each superblock
pub accepted_drop_cases :
    map named_unchecked (Drop 1 (0 ∷ []) ∷ Drop 2 (6144 ∷ 0 ∷ []) ∷ [])
    ≡ named_unchecked (Free 1 0) ∷ after_with (Moves 0) (ranked_pair_state 0 1 0 2) (pair_order 1 0 0 1) ∷ []
unfolding refusals_hold unchecked_call_definitions
accepted_drop_cases = refl

-- ---- the check: a state that passes, with P = 1, and storage enough: what follows
abbrev pub state_that_passes : State
state_that_passes = unnamed_state (setup_with 1 1 1 3 7) (of 1 26 1 ∷ replicate 63 unused)

pub checked_passing_case : checked state_that_passes (1 ∷ replicate 255 77) after_check ≡ after_check
unfolding refusals_hold call_definitions
checked_passing_case = checked_past_check state_that_passes (1 ∷ replicate 255 77) after_check refl
