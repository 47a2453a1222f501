-- Superblocks and states, and counts over them, in cases that tell the definitions from near misses, by computation. Assumes nothing.
use mathlib.Core.Path.{◌≡◌, refl}
use mathlib.Core.Bool.{true, false}
use mathlib.Core.List.{List, [], ◌∷◌, ◌++◌, map}
use Prim.Native.Nat.{ℕ, ◌^◌}
use lib.ListN.{replicate}
use Rattle.base_laws.proofs.Stages.{◌also◌}
use Rattle.base_laws.specs.Sums.{sum_below}
use Rattle.class_rules.specs.Classes.{counts, blocks_of}
use Rattle.marks_rules.specs.Marks.{bit, mark_bit, is_marked, with_mark, without_mark, live_count}
use Rattle.heap_rules.specs.declared.Superblock.{Superblock}
use Rattle.heap_rules.specs.declared.Setup.{Setup}
use Rattle.heap_rules.specs.declared.State.{State}
use Rattle.heap_rules.specs.Table.{unused, is_unused, is_of_run, starts_run, is_of_heap, live_blocks, with_owner, with_mark_at, without_mark_at, with_rank}
use Rattle.heap_rules.specs.Table.{is_live_block}
use Rattle.heap_rules.specs.Totals.{recounted}
use Rattle.heap_rules.specs.States.{with_superblock, with_names, no_state, new_state}
use Rattle.heap_rules.specs.Counts.{total, belongs, is_owned_of_class, one_if_belongs, live_if_belongs, superblocks_of, blocks_in, live_of}
use Rattle.heap_rules.specs.Counts.{superblocks_of_class}
use Rattle.heap_rules.specs.Counts.{live_of_class, owners_changed}
use Rattle.heap_rules.proofs.CaseStates.{unnamed_state}

-- a superblock of heap h and class c with these marks in the first of its four numbers, unranked; and one of rank r
abbrev pub of : ℕ → ℕ → ℕ → Superblock
of h c marks = record { owner = h; class = c; live = marks ∷ 0 ∷ 0 ∷ 0 ∷ []; rank = 0; run = 0 }

abbrev pub ranked : ℕ → ℕ → ℕ → ℕ → Superblock
ranked h c marks r = with_rank r (of h c marks)

-- P = 2, N = 5, K = 1, p = 3, q = 7
abbrev pub small_setup : Setup
small_setup = record { processors = 2; superblocks = 5; spare = 1; p = 3; q = 7 }

-- "unused (owner 255, class 0, nothing live)": no mark in any of the four numbers; a rank, and the length of a run, are looked at by the check's other clauses
pub is_unused_cases :
    map is_unused (of 255 0 0 ∷ of 255 1 0 ∷ of 255 0 4 ∷ of 0 0 0 ∷ of 254 0 0 ∷ of 1 0 0 ∷ []) ≡ true ∷ false ∷ false ∷ false ∷ false ∷ false ∷ []
    × map (λ (live : List ℕ). is_unused (record { owner = 255; class = 0; live = live; rank = 0; run = 0 }))
    ((0 ∷ 1 ∷ 0 ∷ 0 ∷ []) ∷ (0 ∷ 0 ∷ 0 ∷ 2 ^ 63 ∷ []) ∷ []) ≡ false ∷ false ∷ []
    × map is_unused (ranked 255 0 0 5 ∷ record { owner = 255; class = 0; live = 0 ∷ 0 ∷ 0 ∷ 0 ∷ []; rank = 0; run = 3 } ∷ []) ≡ true ∷ true ∷ []
unfolding is_unused live_count sum_below mark_bit bit
is_unused_cases = (refl, refl, refl)

-- "A refused setup hands back five zeros and 64 unused superblocks", "A new setup has every superblock unused"; "A new or refused setup
-- holds no names"
pub no_state_case :
    no_state
    ≡ record {
      setup = record { processors = 0; superblocks = 0; spare = 0; p = 0; q = 0 };
      table = replicate 64 (record { owner = 255; class = 0; live = 0 ∷ 0 ∷ 0 ∷ 0 ∷ []; rank = 0; run = 0 });
      names = replicate 1024 65535;
      totals = record { superblocks = replicate 243 0; live = replicate 243 0 };
    }
no_state_case = refl

pub new_state_case :
    new_state small_setup
    ≡ record {
      setup = record { processors = 2; superblocks = 5; spare = 1; p = 3; q = 7 };
      table = replicate 64 (record { owner = 255; class = 0; live = 0 ∷ 0 ∷ 0 ∷ 0 ∷ []; rank = 0; run = 0 });
      names = replicate 1024 65535;
      totals = record { superblocks = replicate 243 0; live = replicate 243 0 };
    }
new_state_case = let before = no_state_case in refl

-- a superblock replaced: the last, in a state that holds names; setup numbers and names are as they were, and the totals those of the table then.
-- Other names, and nothing else
abbrev pub named_table_state : List Superblock → List ℕ → State
named_table_state table names = record { setup = small_setup; table = table; names = names; totals = recounted table }

pub superblock_replaced_case :
    with_superblock (named_table_state (ranked 1 17 13 2 ∷ replicate 62 unused ++ of 2 16 3 ∷ []) (7 ∷ 8 ∷ [])) 63 (ranked 0 16 1 1)
    ≡ named_table_state (ranked 1 17 13 2 ∷ replicate 62 unused ++ ranked 0 16 1 1 ∷ []) (7 ∷ 8 ∷ [])
superblock_replaced_case = refl

pub names_replaced_case :
    with_names (record { setup = small_setup; table = of 1 17 13 ∷ []; names = 7 ∷ 8 ∷ []; totals = record { superblocks = 4 ∷ []; live = 5 ∷ [] } }) (9 ∷ [])
    ≡ record { setup = small_setup; table = of 1 17 13 ∷ []; names = 9 ∷ []; totals = record { superblocks = 4 ∷ []; live = 5 ∷ [] } }
names_replaced_case = refl

-- one superblock changed: its owner, block 70 live, block 2 no longer live, its rank, and nothing else
pub superblock_change_cases :
    with_owner 3 (ranked 1 17 13 5) ∷ with_mark_at (ranked 1 17 13 5) 70 ∷ without_mark_at (ranked 1 17 13 5) 2 ∷ with_rank 6 (ranked 1 17 13 5) ∷ []
    ≡ record { owner = 3; class = 17; live = 13 ∷ 0 ∷ 0 ∷ 0 ∷ []; rank = 5; run = 0 }
    ∷ record { owner = 1; class = 17; live = 13 ∷ 64 ∷ 0 ∷ 0 ∷ []; rank = 5; run = 0 }
    ∷ record { owner = 1; class = 17; live = 9 ∷ 0 ∷ 0 ∷ 0 ∷ []; rank = 5; run = 0 } ∷ record {
      owner = 1;
      class = 17;
      live = 13 ∷ 0 ∷ 0 ∷ 0 ∷ [];
      rank = 6;
      run = 0;
    } ∷ []
unfolding with_mark without_mark
superblock_change_cases = refl

-- block 0 of superblock 1, its last block, block 2 of superblock 6 and block 6 of superblock 63 are live; block 1 of superblock 0 and block 7 of
-- superblock 63 are not, and there is no superblock 64 and no superblock 255
pub is_live_block_cases :
    map (is_live_block (unnamed_state small_setup (of 0 16 5 ∷ record { owner = 1; class = 0; live = 1 ∷ 0 ∷ 0 ∷ 2 ^ 63 ∷ []; rank = 0; run = 0 }
    ∷ replicate 4 unused ++ of 2 17 4 ∷ replicate 56 unused ++ of 1 16 64 ∷ [])))
    (256 ∷ 511 ∷ 1538 ∷ 16134 ∷ 1 ∷ 257 ∷ 510 ∷ 16135 ∷ 16384 ∷ 65535 ∷ [])
    ≡ true ∷ true ∷ true ∷ true ∷ false ∷ false ∷ false ∷ false ∷ false ∷ false ∷ []
unfolding is_live_block live_blocks starts_run is_of_run is_marked with_mark mark_bit bit
is_live_block_cases = refl

-- the cases so far take little. Each that follows takes longer, and is computed where they and the one before it hold
unfoldable quick_table_holds : Unit {0}
quick_table_holds =
    is_unused_cases also no_state_case also new_state_case also superblock_replaced_case also names_replaced_case also superblock_change_cases
    also is_live_block_cases also tt

-- ---- counts: superblocks 0 to 6 and 63 are in use; heap 1 has three of class 16, with 3, 0 and 7 blocks live; some are ranked, which no count goes by
abbrev pub counted_state : State
counted_state =
    unnamed_state small_setup (ranked 1 16 7 2 ∷ of 2 16 31 ∷ ranked 0 16 1 1 ∷ of 1 17 15 ∷ unused ∷ of 1 16 0 ∷ ranked 2 17 511 3 ∷ replicate 56 unused
    ++ of 1 16 127 ∷ [])

-- superblocks 0 and 63 have other owners; superblock 3 other marks, and 5 another class; 4 has come into use
pub owners_changed_cases :
    map (owners_changed counted_state)
    (counted_state ∷ with_superblock (with_superblock counted_state 63 (of 2 16 127)) 0 (of 0 16 7)
    ∷ with_superblock (with_superblock counted_state 3 (of 1 17 1)) 5 (of 1 3 0) ∷ with_superblock counted_state 4 (of 1 0 0) ∷ [])
    ≡ 0 ∷ 2 ∷ 0 ∷ 1 ∷ []
unfolding quick_table_holds owners_changed sum_below
owners_changed_cases = refl

-- a block that a name holds is a live block as any other: names 0 and 2 hold blocks 0 and 2 of superblock 0
pub counts_beside_names_case :
    (let s : State = with_names counted_state (0 ∷ 65535 ∷ 2 ∷ []) in superblocks_of 1 16 s ∷ blocks_in 1 16 s ∷ live_of 1 16 s ∷ []) ≡ 3 ∷ 30 ∷ 10 ∷ []
unfolding superblocks_of blocks_in live_of total one_if_belongs live_if_belongs belongs blocks_of counts live_count sum_below mark_bit bit
counts_beside_names_case = let before = owners_changed_cases in refl

-- heap and class: superblocks, blocks, live blocks
abbrev pub counts_by_heap : List (ℕ × ℕ × ℕ × ℕ × ℕ)
counts_by_heap = (1, 16, 3, 30, 10) ∷ (2, 16, 1, 10, 5) ∷ (0, 16, 1, 10, 1) ∷ (1, 17, 1, 9, 4) ∷ (2, 17, 1, 9, 9) ∷ (0, 17, 0, 0, 0) ∷ []

pub counts_by_heap_cases : map
    (λ (r : ℕ × ℕ × ℕ × ℕ × ℕ). (
      r.0,
      r.1,
      superblocks_of r.0 r.1 counted_state,
      blocks_in r.0 r.1 counted_state,
      live_of r.0 r.1 counted_state,
    )) counts_by_heap ≡ counts_by_heap
unfolding superblocks_of blocks_in live_of total one_if_belongs live_if_belongs belongs blocks_of counts live_count sum_below mark_bit bit
counts_by_heap_cases = let before = counts_beside_names_case in refl

-- a class: "the superblocks of this class that any heap owns .., empty ones too", and their live blocks; an unused superblock is of no class
abbrev pub counts_by_class : List (ℕ × ℕ × ℕ)
counts_by_class = (16, 5, 16) ∷ (17, 2, 13) ∷ (0, 0, 0) ∷ []

pub counts_by_class_cases : map (λ (r : ℕ × ℕ × ℕ). (r.0, superblocks_of_class r.0 counted_state, live_of_class r.0 counted_state)) counts_by_class
    ≡ counts_by_class
unfolding superblocks_of_class live_of_class total is_owned_of_class is_of_heap live_count sum_below mark_bit bit
counts_by_class_cases = let before = counts_by_heap_cases in refl

-- what the cases of ranks and runs unfold
unfoldable pub table_holds : Unit {0}
table_holds = counts_by_class_cases also tt
