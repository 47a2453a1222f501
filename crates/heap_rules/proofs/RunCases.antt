-- Superblocks of long blocks' runs (document 02, item 7) in cases that tell the definitions from near misses, by computation. Assumes nothing.
use mathlib.Core.Path.{◌≡◌, refl}
use mathlib.Core.Bool.{true, false}
use mathlib.Core.List.{[], ◌∷◌, ◌++◌, map}
use Prim.Native.Nat.{ℕ}
use lib.ListN.{replicate}
use Rattle.base_laws.proofs.Stages.{◌also◌}
use Rattle.base_laws.specs.Sums.{sum_below}
use Rattle.marks_rules.specs.Marks.{bit, mark_bit, is_marked, with_mark, no_marks}
use Rattle.heap_rules.specs.declared.Superblock.{Superblock}
use Rattle.heap_rules.specs.declared.State.{State}
use Rattle.heap_rules.specs.Table.{unused, is_of_run, starts_run, run_part, is_of_heap, live_blocks, with_owner, with_mark_at, without_mark_at, with_rank}
use Rattle.heap_rules.specs.Table.{is_live_block}
use Rattle.heap_rules.specs.States.{with_superblock}
use Rattle.heap_rules.specs.Counts.{total, is_owned_of_class, superblocks_of_class, owners_changed, passed_between_heaps}
use Rattle.heap_rules.proofs.CaseStates.{unnamed_state}
use Rattle.heap_rules.proofs.TableCases.{of, small_setup, table_holds}

-- a superblock of this owner, with nothing live, that carries a length
abbrev pub with_length : ℕ → ℕ → Superblock
with_length h n = record { owner = h; class = 0; live = 0 ∷ 0 ∷ 0 ∷ 0 ∷ []; rank = 0; run = n }

-- "They get owner 254, class field 0, no marks and no rank"
pub run_part_cases :
    run_part 0 ∷ run_part 2 ∷ [] ≡ record { owner = 254; class = 0; live = 0 ∷ 0 ∷ 0 ∷ 0 ∷ []; rank = 0; run = 0 }
    ∷ record { owner = 254; class = 0; live = 0 ∷ 0 ∷ 0 ∷ 0 ∷ []; rank = 0; run = 2 } ∷ []
unfolding table_holds
run_part_cases = refl

-- by the owner, whatever the class, the marks and the length
pub is_of_run_cases : map is_of_run (run_part 0 ∷ run_part 3 ∷ of 254 5 1 ∷ unused ∷ of 0 0 0 ∷ with_length 253 3 ∷ with_length 255 3 ∷ []) ≡ true ∷ true
    ∷ true ∷ false ∷ false ∷ false ∷ false ∷ []
unfolding table_holds is_of_run
is_of_run_cases = refl

-- the first of a run has a length, whatever its rank; one of another owner is none
pub starts_run_cases : map starts_run (run_part 1 ∷ run_part 16 ∷ run_part 0 ∷ with_rank 3 (run_part 0) ∷ with_length 255 3 ∷ with_length 253 3
    ∷ with_length 0 3 ∷ []) ≡ true ∷ true ∷ replicate 5 false
unfolding table_holds starts_run is_of_run
starts_run_cases = refl

-- a heap's; not of owner 254 or 255
pub is_of_heap_cases : map is_of_heap (of 0 0 0 ∷ of 1 26 3 ∷ of 8 0 0 ∷ of 253 0 0 ∷ run_part 0 ∷ run_part 1 ∷ unused ∷ []) ≡ true ∷ true ∷ true ∷ true
    ∷ false ∷ false ∷ false ∷ []
unfolding table_holds is_of_heap
is_of_heap_cases = refl

-- block 0 of the first of a run and no other, though it has no marks, or other marks than a state that passes has; of all others the marked ones
pub live_blocks_cases :
    map live_blocks (run_part 3 ∷ run_part 0 ∷ of 1 16 6 ∷ with_length 255 3 ∷ with_mark_at (run_part 3) 2 ∷ []) ≡ (1 ∷ 0 ∷ 0 ∷ 0 ∷ []) ∷ no_marks
    ∷ (6 ∷ 0 ∷ 0 ∷ 0 ∷ []) ∷ no_marks ∷ (1 ∷ 0 ∷ 0 ∷ 0 ∷ []) ∷ []
unfolding table_holds live_blocks starts_run is_of_run with_mark
live_blocks_cases = refl

-- one superblock changed keeps the length that it carries
pub length_kept_cases :
    map (λ (b : Superblock). b.run) (with_owner 3 (run_part 5) ∷ with_mark_at (run_part 5) 70 ∷ without_mark_at (run_part 5) 2 ∷ with_rank 6 (run_part 5) ∷ [])
    ≡ 5
    ∷ 5 ∷ 5 ∷ 5 ∷ []
unfolding table_holds
length_kept_cases = refl

-- ---- a run of three superblocks from 2 on, between others; superblocks 1 and 63 are heap 0's and heap 2's, of class 0
abbrev pub state_with_run : State
state_with_run = unnamed_state small_setup (of 1 16 5 ∷ of 0 0 0 ∷ run_part 3 ∷ run_part 0 ∷ run_part 0 ∷ replicate 58 unused ++ of 2 0 1 ∷ [])

-- the long block is block 0 of superblock 2; its other blocks are not live, and those of superblocks 3 and 4 are not; block 0 of superblock 63 is
pub is_live_block_of_run_cases : map (is_live_block state_with_run) (512 ∷ 513 ∷ 767 ∷ 768 ∷ 1024 ∷ 16128 ∷ [])
    ≡ true ∷ false ∷ false ∷ false ∷ false ∷ true ∷ []
unfolding table_holds is_live_block live_blocks starts_run is_of_run is_marked with_mark mark_bit bit
is_live_block_of_run_cases = refl

-- "The class bound then counts only superblocks with a class": of class 0 there are two
pub superblocks_of_class_beside_run_cases : map (λ (c : ℕ). superblocks_of_class c state_with_run) (0 ∷ 16 ∷ []) ≡ 2 ∷ 1 ∷ []
unfolding table_holds superblocks_of_class total is_owned_of_class is_of_heap sum_below
superblocks_of_class_beside_run_cases = refl

-- "only those that pass between heaps": one from heap 1 to 0; two, among them the last superblock; the run freed; one of heap 0 that joins a run, and
-- an unused one; an unused one that a heap acquires. Of all these the owners change
abbrev pub run_unused : State
run_unused = with_superblock (with_superblock (with_superblock state_with_run 2 unused) 3 unused) 4 unused

pub passed_between_heaps_cases :
    map {B = ℕ × ℕ} (λ (t : State). (passed_between_heaps state_with_run t, owners_changed state_with_run t))
    (state_with_run ∷ with_superblock state_with_run 0 (of 0 16 5) ∷ with_superblock (with_superblock state_with_run 63 (of 0 0 1)) 1 (of 8 0 0) ∷ run_unused
    ∷ with_superblock state_with_run 1 (run_part 1) ∷ with_superblock state_with_run 5 (run_part 1) ∷ with_superblock state_with_run 5 (of 1 0 0) ∷ [])
    ≡ (0, 0) ∷ (1, 1) ∷ (2, 2) ∷ (0, 3) ∷ (0, 1) ∷ (0, 1) ∷ (0, 1) ∷ []
unfolding table_holds passed_between_heaps owners_changed is_of_heap sum_below
passed_between_heaps_cases = refl

unfoldable pub runs_hold : Unit {0}
runs_hold =
    run_part_cases also is_of_run_cases also starts_run_cases also is_of_heap_cases also live_blocks_cases also length_kept_cases
    also is_live_block_of_run_cases also superblocks_of_class_beside_run_cases also passed_between_heaps_cases also tt
