-- What the check asks of long blocks' runs (document 02, item 7), in cases that tell it from near misses, by computation. Assumes nothing.
use mathlib.Core.Path.{◌≡◌, refl}
use mathlib.Core.Bool.{true, false}
use mathlib.Core.List.{List, [], ◌∷◌, ◌++◌, map}
use Prim.Native.Nat.{ℕ, ◌^◌}
use lib.ListN.{replicate}
use Rattle.base_laws.proofs.Stages.{◌also◌}
use Rattle.heap_rules.specs.declared.Superblock.{Superblock}
use Rattle.heap_rules.specs.Table.{unused, run_part}
use Rattle.check_rules.specs.Check.{is_part_of_run, superblock_valid, unused_from, runs_whole, runs_valid}
use Rattle.heap_rules.proofs.TableCases.{of, small_setup}
use Rattle.heap_rules.proofs.RunCases.{with_length}
use Rattle.heap_rules.proofs.CaseStates.{unnamed_state}
use Rattle.check_rules.proofs.CheckDefinitions.{check_definitions}
use Rattle.check_rules.proofs.CheckCases.{valid_as_superblock_1, checks_hold}

-- "owner 254, class field 0, no marks": the first of a run and another; with a class, with its first or last mark, of other owners
abbrev pub run_parts_and_others : List Superblock
run_parts_and_others =
    run_part 3 ∷ run_part 0 ∷ of 254 1 0 ∷ of 254 20 10 ∷ of 254 0 1 ∷ record { owner = 254; class = 0; live = 0 ∷ 0 ∷ 0 ∷ 2 ^ 63 ∷ []; rank = 0; run = 0 }
    ∷ with_length 253 0 ∷ []

pub is_part_of_run_cases : map is_part_of_run (run_parts_and_others ++ unused ∷ of 0 0 0 ∷ []) ≡ true ∷ true ∷ replicate 7 false
unfolding checks_hold check_definitions
is_part_of_run_cases = refl

-- the check "asks nothing of their order places", and they may be past the storage
pub run_parts_valid_cases : map valid_as_superblock_1 run_parts_and_others ≡ true ∷ true ∷ replicate 5 false
    × superblock_valid small_setup [] 63 (run_part 0) ≡ true
unfolding checks_hold check_definitions
run_parts_valid_cases = (refl, refl)

-- N = 5: "all below N"
pub run_part_unused_from_cases : map (λ (k : ℕ). unused_from 5 k (run_part 0)) (4 ∷ 5 ∷ 63 ∷ []) ≡ true ∷ false ∷ false ∷ []
unfolding checks_hold check_definitions
run_part_unused_from_cases = refl

-- ---- whole runs: none; of one superblock, and three such side by side; of two and one behind it, between others; of 16
pub whole_runs_cases :
    map (runs_whole 0)
    ([] ∷ (unused ∷ of 0 0 0 ∷ []) ∷ (run_part 1 ∷ run_part 1 ∷ run_part 1 ∷ []) ∷ (of 1 0 1 ∷ run_part 2 ∷ run_part 0 ∷ run_part 1 ∷ unused ∷ [])
    ∷ (run_part 16 ∷ replicate 15 (run_part 0) ++ unused ∷ []) ∷ [])
    ≡ replicate 5 true
unfolding checks_hold check_definitions
whole_runs_cases = refl

-- a first one of length 0; of 17; past the end; an inner one with a length, as of a run that begins within another, the last too; one left over
-- behind a run; a run over one of a heap, and over an unused one; a length in a heap's superblock, in an unused one, in one of the run's neighbours
pub runs_not_whole_cases :
    map (runs_whole 0)
    ((run_part 0 ∷ []) ∷ (unused ∷ run_part 0 ∷ unused ∷ []) ∷ (run_part 17 ∷ replicate 16 (run_part 0)) ∷ (run_part 2 ∷ []) ∷ (run_part 2 ∷ run_part 1 ∷ [])
    ∷ (run_part 3 ∷ run_part 2 ∷ run_part 0 ∷ []) ∷ (run_part 1 ∷ run_part 0 ∷ [])
    ∷ (run_part 2 ∷ of 0 0 0 ∷ []) ∷ (run_part 2 ∷ unused ∷ []) ∷ (with_length 1 1 ∷ []) ∷ (with_length 255 1 ∷ []) ∷ (run_part 1 ∷ with_length 0 1 ∷ []) ∷ [])
    ≡ replicate 12 false
unfolding checks_hold check_definitions
runs_not_whole_cases = refl

-- within a run, of which so many are to come
pub rest_of_run_cases :
    runs_whole 1 (run_part 0 ∷ []) ∷ runs_whole 2 (run_part 0 ∷ run_part 0 ∷ run_part 1 ∷ []) ∷ runs_whole 1 [] ∷ runs_whole 2 (run_part 0 ∷ [])
    ∷ runs_whole 1 (run_part 1 ∷ []) ∷ runs_whole 1 (run_part 0 ∷ run_part 0 ∷ []) ∷ runs_whole 1 (unused ∷ []) ∷ []
    ≡ true ∷ true ∷ replicate 5 false
unfolding checks_hold check_definitions
rest_of_run_cases = refl

-- a state's: a run of two that ends with the table; one that would end behind it
pub runs_valid_cases :
    runs_valid (unnamed_state small_setup (replicate 62 unused ++ run_part 2 ∷ run_part 0 ∷ []))
    ∷ runs_valid (unnamed_state small_setup (replicate 63 unused ++ run_part 2 ∷ [])) ∷ []
    ≡ true ∷ false ∷ []
unfolding checks_hold check_definitions
runs_valid_cases = refl

unfoldable pub run_checks_hold : Unit {0}
run_checks_hold =
    is_part_of_run_cases also run_parts_valid_cases also run_part_unused_from_cases also whole_runs_cases also runs_not_whole_cases
    also rest_of_run_cases also runs_valid_cases also tt
