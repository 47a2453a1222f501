-- The move rule in cases that tell it from its near misses: the case marked in document 01, "Edges", and those of "Readings that would pass
-- a hurried eye". By computation. Assumes nothing.
use mathlib.Core.Path.{◌≡◌, refl}
use mathlib.Core.Bool.{true, false}
use mathlib.Core.List.{List, [], ◌∷◌, ◌++◌, map}
use Prim.Native.Nat.{ℕ, ◌-◌, ◌^◌}
use lib.ListN.{length, take, replicate}
use Rattle.base_laws.proofs.Stages.{◌also◌}
use Rattle.base_laws.specs.Sums.{sum_below}
use Rattle.class_rules.specs.Classes.{sizes, counts, size_of, blocks_of}
use Rattle.marks_rules.specs.Marks.{bit, mark_bit, live_count}
use Rattle.heap_rules.specs.declared.Superblock.{Superblock}
use Rattle.heap_rules.specs.declared.State.{State}
use Rattle.heap_rules.specs.declared.Moved.{Moved}
use Rattle.heap_rules.specs.Table.{unused, run_part}
use Rattle.heap_rules.specs.States.{with_names}
use Rattle.heap_rules.specs.Counts.{total, belongs, one_if_belongs, live_if_belongs, superblocks_of, blocks_in, live_of}
use Rattle.heap_rules.proofs.CaseStates.{unnamed_state}
use Rattle.heap_rules.proofs.TableCases.{ranked, small_setup}
use Rattle.choice_rules.specs.Choice.{prefer, chosen_below, fewer_live, emptiest}
use Rattle.move_rules.specs.Moves.{both_conditions, must_move, transferred, found_transferred, transfers_up_to, excess_transferred, invariant_restored}

-- a superblock of heap h and class c, its lowest l blocks live
abbrev pub superblock_with : ℕ → ℕ → ℕ → Superblock
superblock_with h c l = record { owner = h; class = c; live = (2 ^ l - 1) ∷ 0 ∷ 0 ∷ 0 ∷ []; rank = 0; run = 0 }

-- K, p and q, the first superblocks, and a class: how many of heap 1's move, and the owners then
pub record MoveCase : Type 0 where
  pub spare : ℕ
  pub p : ℕ
  pub q : ℕ
  pub class : ℕ
  pub table : List Superblock
  pub moves : ℕ
  pub owners : List ℕ

abbrev pub state_of_case : MoveCase → State
state_of_case k =
    unnamed_state (record { processors = 2; superblocks = 64; spare = k.spare; p = k.p; q = k.q }) (k.table ++ replicate (64 - length k.table) unused)

-- "p/q = 1/4, K = 1, heap 1 class 16 with live counts 7, 7, 7, 8, 8, 8: freeing from an 8 moves two superblocks"; here that block is freed already
abbrev pub marked_case : MoveCase
marked_case = record {
  spare = 1;
  p = 1;
  q = 4;
  class = 16;
  table = map (superblock_with 1 16) (7 ∷ 7 ∷ 7 ∷ 7 ∷ 8 ∷ 8 ∷ []);
  moves = 2;
  owners = 0 ∷ 0 ∷ 1 ∷ 1 ∷ 1 ∷ 1 ∷ [];
}

-- A full heap of a class whose superblocks have a tail, 2 blocks of 1536 bytes in 4096. In bytes it would look part empty:
-- 15360 + 1 × 4096 is below 20480, and 8 × 15360 below 7 × 20480.
abbrev pub full_with_tails : MoveCase
full_with_tails = record {
  spare = 1;
  p = 1;
  q = 8;
  class = 24;
  table = map (superblock_with 1 24) (2 ∷ 2 ∷ 2 ∷ 2 ∷ 2 ∷ []);
  moves = 0;
  owners = 1 ∷ 1 ∷ 1 ∷ 1 ∷ 1 ∷ [];
}

-- 4 × 37 is below 3 × 50, where 37 is not below 3 × 50 / 4 rounded down; the lower number among the emptiest moves
abbrev pub division_rounds : MoveCase
division_rounds = record {
  spare = 1;
  p = 1;
  q = 4;
  class = 16;
  table = map (superblock_with 1 16) (8 ∷ 7 ∷ 8 ∷ 7 ∷ 7 ∷ []);
  moves = 1;
  owners = 1 ∷ 0 ∷ 1 ∷ 1 ∷ 1 ∷ [];
}

-- u + K × n is a, and q × u is (q - p) × a: neither moves
abbrev pub first_condition_equal : MoveCase
first_condition_equal = record {
  spare = 1;
  p = 1;
  q = 8;
  class = 16;
  table = map (superblock_with 1 16) (7 ∷ 7 ∷ 8 ∷ 8 ∷ []);
  moves = 0;
  owners = 1 ∷ 1 ∷ 1 ∷ 1 ∷ [];
}

abbrev pub second_condition_equal : MoveCase
second_condition_equal =
    record {
      spare = 1;
      p = 1;
      q = 4;
      class = 16;
      table = map (superblock_with 1 16) (7 ∷ 7 ∷ 7 ∷ 7 ∷ 8 ∷ 8 ∷ 8 ∷ 8 ∷ []);
      moves = 0;
      owners = 1 ∷ 1 ∷ 1 ∷ 1 ∷ 1 ∷ 1 ∷ 1 ∷ 1 ∷ [];
    }

-- with K = 2, three nearly empty superblocks: one moves, and two may stay
abbrev pub two_spare : MoveCase
two_spare = record { spare = 2; p = 1; q = 2; class = 16; table = map (superblock_with 1 16) (2 ∷ 1 ∷ 1 ∷ []); moves = 1; owners = 1 ∷ 0 ∷ 1 ∷ [] }

-- another heap's and another class's superblocks do not count: empty ones move nothing, full ones keep nothing back
abbrev pub empty_elsewhere : MoveCase
empty_elsewhere =
    record {
      spare = 1;
      p = 1;
      q = 4;
      class = 16;
      table = superblock_with 2 16 0 ∷ superblock_with 1 17 0 ∷ superblock_with 0 16 0 ∷ superblock_with 1 16 1 ∷ superblock_with 1 16 10 ∷ [];
      moves = 0;
      owners = 2 ∷ 1 ∷ 0 ∷ 1 ∷ 1 ∷ [];
    }

abbrev pub full_elsewhere : MoveCase
full_elsewhere =
    record {
      spare = 1;
      p = 1;
      q = 4;
      class = 16;
      table = superblock_with 2 16 10 ∷ superblock_with 1 17 9 ∷ superblock_with 1 16 1 ∷ superblock_with 1 16 1 ∷ [];
      moves = 1;
      owners = 2 ∷ 1 ∷ 0 ∷ 1 ∷ [];
    }

-- five empty superblocks: four move, as many as there are but K
abbrev pub four_moves : MoveCase
four_moves = record {
  spare = 1;
  p = 1;
  q = 8;
  class = 26;
  table = map (superblock_with 1 26) (0 ∷ 0 ∷ 0 ∷ 0 ∷ 0 ∷ []);
  moves = 4;
  owners = 0 ∷ 0 ∷ 0 ∷ 0
      ∷ 1 ∷ [];
}

abbrev pub cases : List MoveCase
cases = first_condition_equal ∷ second_condition_equal ∷ two_spare ∷ empty_elsewhere ∷ full_elsewhere ∷ four_moves ∷ []

-- the moves and the owners of the case's superblocks, as the rule leaves them and as they should be
abbrev pub result_of : MoveCase → ℕ × List ℕ
result_of k =
    let r : Moved = excess_transferred 1 k.class (state_of_case k) in
    (r.moves, map (λ (b : Superblock). b.owner) (take (length k.table) r.state.table))

abbrev pub expected_of : MoveCase → ℕ × List ℕ
expected_of k = (k.moves, k.owners)

-- the two conditions on their own. With K = 2, p/q = 3/7, n = 5, a = 40: 22 + 10 < 40 and 154 < 160, and 161 is not below; with K = 6 the first decides
pub both_conditions_cases :
    map (both_conditions 2 3 7 5 40) (22 ∷ 23 ∷ 0 ∷ []) ≡ true ∷ false ∷ true ∷ [] × map (both_conditions 6 3 7 5 40) (9 ∷ 10 ∷ []) ≡ true ∷ false ∷ []
unfolding both_conditions
both_conditions_cases = (refl, refl)

-- 7 × 20 is 4 × 35
pub second_condition_equal_case : both_conditions 2 3 7 5 35 20 ≡ false
unfolding both_conditions
second_condition_equal_case = refl

-- "If the owner is heap 0 the call ends": heap 0's four empty superblocks would meet both conditions
abbrev pub all_global : State
all_global = state_of_case (record { spare = 1; p = 1; q = 4; class = 16; table = map (superblock_with 0 16) (0 ∷ 0 ∷ 0 ∷ 0 ∷ []); moves = 0; owners = [] })

pub invariant_restored_in_global_case : invariant_restored 0 16 all_global ≡ record { moves = 0; state = all_global }
unfolding invariant_restored
invariant_restored_in_global_case = refl

-- one superblock passes to heap 0, in a state with ranks, a run and names: its owner is 0, and its class, marks and rank, the other superblocks and
-- the names are as they were
abbrev pub ranked_table : ℕ → List Superblock
ranked_table owner = ranked 1 16 3 2 ∷ ranked owner 16 5 1 ∷ run_part 1 ∷ replicate 61 unused

pub transferred_whole_state_case :
    transferred 1 (with_names (unnamed_state small_setup (ranked_table 2)) (256 ∷ 512 ∷ [])) ≡ with_names (unnamed_state small_setup (ranked_table 0))
    (256 ∷ 512 ∷ [])
unfolding transferred
transferred_whole_state_case = refl

-- in blocks, not in bytes
pub full_with_tails_stays : result_of full_with_tails ≡ expected_of full_with_tails
unfolding excess_transferred transfers_up_to must_move both_conditions transferred found_transferred emptiest chosen_below prefer fewer_live belongs total
    one_if_belongs live_if_belongs superblocks_of blocks_in live_of
    sum_below sizes counts size_of blocks_of bit mark_bit live_count
full_with_tails_stays = refl

-- heap 2, the last: of its two superblocks of class 26 with nothing live one moves, and of heap 1's, full, none
abbrev pub last_heap_empty : State
last_heap_empty =
    state_of_case (record {
      spare = 1;
      p = 1;
      q = 4;
      class = 26;
      table = superblock_with 1 26 2 ∷ superblock_with 2 26 0 ∷ superblock_with 1 26 2
          ∷ superblock_with 2 26 0 ∷ [];
      moves = 1;
      owners = [];
    })

pub last_heap_moves :
    map (λ (h : ℕ). (invariant_restored h 26 last_heap_empty).moves) (1 ∷ 2 ∷ []) ≡ 0 ∷ 1 ∷ []
    × map (λ (b : Superblock). b.owner) (take 5 (invariant_restored 2 26 last_heap_empty).state.table) ≡ 1 ∷ 0 ∷ 1 ∷ 2 ∷ 255 ∷ []
unfolding invariant_restored excess_transferred transfers_up_to must_move both_conditions transferred found_transferred emptiest chosen_below prefer fewer_live
    belongs total one_if_belongs live_if_belongs superblocks_of blocks_in live_of
    sum_below sizes counts size_of blocks_of bit mark_bit live_count
last_heap_moves = (refl, refl)

-- ---- the cases so far take little. Each that follows takes longer, and is computed where they and the one before it hold
unfoldable quick_moves_hold : Unit {0}
quick_moves_hold =
    both_conditions_cases also second_condition_equal_case also invariant_restored_in_global_case also transferred_whole_state_case
    also full_with_tails_stays also last_heap_moves also tt

-- compared before it is divided
pub division_rounds_moves_one : result_of division_rounds ≡ expected_of division_rounds
unfolding quick_moves_hold excess_transferred transfers_up_to must_move both_conditions transferred found_transferred emptiest chosen_below prefer fewer_live
    belongs total one_if_belongs live_if_belongs superblocks_of blocks_in live_of
    sum_below sizes counts size_of blocks_of bit mark_bit live_count
division_rounds_moves_one = refl

-- the whole state after a move: the superblock's owner is 0, its class and marks are as they were, and so is all else
pub invariant_restored_whole_state_case :
    invariant_restored 1 16 (state_of_case division_rounds)
    ≡ record {
      moves = 1;
      state = unnamed_state (record { processors = 2; superblocks = 64; spare = 1; p = 1; q = 4 }) (superblock_with 1 16 8 ∷ superblock_with 0 16 7
          ∷ superblock_with 1 16 8 ∷ superblock_with 1 16 7 ∷ superblock_with 1 16 7 ∷ replicate 59 unused);
    }
unfolding invariant_restored excess_transferred transfers_up_to must_move both_conditions transferred found_transferred emptiest chosen_below prefer fewer_live
    belongs total one_if_belongs live_if_belongs superblocks_of blocks_in live_of
    sum_below sizes counts size_of blocks_of bit mark_bit live_count
invariant_restored_whole_state_case = let before = division_rounds_moves_one in refl

-- two moves in one free
pub marked_case_moves_two : result_of marked_case ≡ expected_of marked_case
unfolding excess_transferred transfers_up_to must_move both_conditions transferred found_transferred emptiest chosen_below prefer fewer_live belongs total
    one_if_belongs live_if_belongs superblocks_of blocks_in live_of
    sum_below sizes counts size_of blocks_of bit mark_bit live_count
marked_case_moves_two = let before = invariant_restored_whole_state_case in refl

pub move_rule_cases : map result_of cases ≡ map expected_of cases
unfolding excess_transferred transfers_up_to must_move both_conditions transferred found_transferred emptiest chosen_below prefer fewer_live belongs total
    one_if_belongs live_if_belongs superblocks_of blocks_in live_of
    sum_below sizes counts size_of blocks_of bit mark_bit live_count
move_rule_cases = let before = marked_case_moves_two in refl

-- one move, as in Figure 2 of document 003, is not enough: both conditions still hold after it
pub marked_case_must_move_again : must_move 1 16 (found_transferred (emptiest 1 16 (state_of_case marked_case)) (state_of_case marked_case)) ≡ true
unfolding must_move both_conditions transferred found_transferred emptiest chosen_below prefer fewer_live belongs total one_if_belongs live_if_belongs
    superblocks_of blocks_in live_of
    sum_below sizes counts size_of blocks_of bit mark_bit live_count
marked_case_must_move_again = let before = move_rule_cases in refl
