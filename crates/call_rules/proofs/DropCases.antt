-- The parts of drops in cases that tell them from near misses, by computation (document 02, item 5). Assumes nothing.
use mathlib.Core.Path.{◌≡◌, refl}
use mathlib.Core.List.{List, [], ◌∷◌, map}
use Prim.Native.Nat.{ℕ}
use lib.Dec.{eqb}
use lib.ListN.{replicate}
use Rattle.base_laws.proofs.Stages.{◌also◌}
use Rattle.base_laws.specs.Sums.{both, either}
use Rattle.names_rules.specs.Names.{no_names, with_name}
use Rattle.heap_rules.specs.declared.State.{State}
use Rattle.heap_rules.specs.Table.{unused, superblock_at}
use Rattle.heap_rules.specs.States.{with_names}
use Rattle.heap_rules.proofs.CaseStates.{unnamed_state}
use Rattle.heap_rules.proofs.TableCases.{ranked}
use Rattle.call_rules.specs.Free.{address_refusal}
use Rattle.call_rules.specs.Drop.{Pair, all_freed, all_pushed, first_address_refusal, is_touched, touched_pairs, then_restored}
use Rattle.call_rules.proofs.CallDefinitions.{unchecked_call_definitions}
use Rattle.call_rules.proofs.RuleCases.{setup_with}
use Rattle.call_rules.proofs.LongBlockCases.{run_parts_hold}
use Rattle.call_rules.proofs.PairStates.{pair_state, pair_order, state_before}

-- ---- the frees. P = 3, N = 8, K = 1, p/q = 1/4: superblocks 0 to 3 are heap 2's of class 26, with two blocks of 2048 bytes; 4 and 5 heap 1's of
-- class 23, with three of 1280; 6 heap 0's and 7 heap 3's of class 26. Names 5, 6 and 7 are of block 1 of superblock 5, block 0 of 4 and block 0 of
-- 3.
abbrev pub page_state : State
page_state =
    with_names (unnamed_state (setup_with 3 8 1 1 4) (ranked 2 26 3 0 ∷ ranked 2 26 3 0 ∷ ranked 2 26 1 0 ∷ ranked 2 26 1 2 ∷ ranked 1 23 1 0
    ∷ ranked 1 23 3 1 ∷ ranked 0 26 1 0 ∷ ranked 3 26 3 0 ∷ replicate 56 unused))
    (with_name (with_name (with_name no_names 5 1281) 6 1024) 7 768)

-- a block of heap 2, then of heap 0, heap 1, heap 3, and heap 2 again
abbrev pub page : List ℕ
page = 2048 ∷ 24576 ∷ 21760 ∷ 28672 ∷ 12288 ∷ []

-- "All blocks are freed first": a move after the free of the first of them would have passed superblock 0 on
pub freed_before_moves_case : (superblock_at (all_freed page_state (2048 ∷ [])) 0).owner ≡ 2
unfolding run_parts_hold unchecked_call_definitions
freed_before_moves_case = refl

-- superblocks 0 and 1, full: the next place of each is told by the frees before it, and the last freed is on top
pub all_pushed_case : all_pushed (pair_state 3 3) (pair_order 66 67 68 69) (2048 ∷ 4096 ∷ 0 ∷ []) ≡ pair_order 1 0 0 69
unfolding run_parts_hold unchecked_call_definitions
all_pushed_case = refl

-- blocks 0 of superblock 0 and 1 of superblock 1 are live, superblock 2 is past N: unmapped, misaligned and not live
pub address_refusal_cases : map (address_refusal state_before) (0 ∷ 6144 ∷ 8192 ∷ 8193 ∷ 2049 ∷ 2048 ∷ []) ≡ 0 ∷ 0 ∷ 5 ∷ 5 ∷ 6 ∷ 7 ∷ []
unfolding run_parts_hold unchecked_call_definitions
address_refusal_cases = refl

-- none; a double, beside itself and after another; a bad one last, and the first of several
pub first_refusal_cases :
    map (first_address_refusal state_before) ((0 ∷ 6144 ∷ []) ∷ (0 ∷ 0 ∷ []) ∷ (0 ∷ 6144 ∷ 0 ∷ []) ∷ (0 ∷ 6144 ∷ 2049 ∷ []) ∷ (0 ∷ 2049 ∷ 8192 ∷ [])
    ∷ (2048 ∷ 8192 ∷ 2049 ∷ []) ∷ (8192 ∷ 0 ∷ 0 ∷ []) ∷ [])
    ≡ 0 ∷ 7 ∷ 7 ∷ 6 ∷ 6 ∷ 7 ∷ 5 ∷ []
unfolding run_parts_hold unchecked_call_definitions
first_refusal_cases = refl

-- ---- the moves
abbrev pair : ℕ → ℕ → Pair
pair h c = record { heap = h; class = c }

-- heap 0, heap 4 and class 27 would be touched as well: heaps 1 to 3, and within heap 2 the lower class first, whatever the order of the addresses
pub touched_pairs_cases :
    touched_pairs (λ h c. either (eqb c 26) (either (eqb c 27) (both (eqb h 2) (eqb c 3)))) 3 ∷ touched_pairs (is_touched page_state page) 3
    ∷ touched_pairs (is_touched page_state (24576 ∷ [])) 3 ∷ []
    ≡ (pair 1 26 ∷ pair 2 3 ∷ pair 2 26 ∷ pair 3 26 ∷ []) ∷ (pair 1 23 ∷ pair 2 26 ∷ pair 3 26 ∷ []) ∷ [] ∷ []
unfolding run_parts_hold unchecked_call_definitions
touched_pairs_cases = refl

-- five moves came before, and heap 1 and class 26 make none
pub then_restored_case : (then_restored 1 26 (record { moves = 5; state = state_before })).moves ≡ 5
unfolding run_parts_hold unchecked_call_definitions
then_restored_case = refl

-- ---- the cases so far take little; the one that follows is computed where they hold, as two states that differ take long to compare
unfoldable quick_drops_hold : Unit {0}
quick_drops_hold = freed_before_moves_case also all_pushed_case also address_refusal_cases also first_refusal_cases also touched_pairs_cases also
    then_restored_case also tt

-- marks cleared, the last freed into first in the ranking, names 5 and 7 let go; no owner changed
abbrev page_freed : State
page_freed =
    with_names (unnamed_state (setup_with 3 8 1 1 4) (ranked 2 26 1 5 ∷ ranked 2 26 3 0 ∷ ranked 2 26 1 0 ∷ ranked 2 26 0 1 ∷ ranked 1 23 1 0
    ∷ ranked 1 23 1 3 ∷ ranked 0 26 0 4 ∷ ranked 3 26 2 2 ∷ replicate 56 unused))
    (with_name no_names 6 1024)

pub all_freed_case : all_freed page_state page ≡ page_freed
unfolding quick_drops_hold unchecked_call_definitions
all_freed_case = refl
