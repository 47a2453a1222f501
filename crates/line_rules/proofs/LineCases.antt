-- Lines computed, and held against the text that is to be printed: those of document 01's whole case, and lines whose numbers all differ.
-- Assumes nothing.
use mathlib.Core.Path.{◌≡◌, refl}
use mathlib.Core.Bool.{true, false}
use mathlib.Core.List.{[], ◌∷◌, ◌++◌}
use Prim.Native.Nat.{ℕ}
use lib.ListN.{replicate}
use Rattle.base_laws.proofs.Stages.{◌also◌}
use Rattle.text_rules.specs.Text.{letters}
use Rattle.names_rules.specs.Names.{no_names, with_name}
use Rattle.names_rules.proofs.NameDefinitions.{name_definitions}
use Rattle.heap_rules.specs.declared.Superblock.{Superblock}
use Rattle.heap_rules.specs.declared.State.{State}
use Rattle.heap_rules.specs.Table.{unused, run_part}
use Rattle.heap_rules.specs.Totals.{no_totals}
use Rattle.heap_rules.proofs.CaseStates.{unnamed_state}
use Rattle.call_header.specs.declared.CallHeader.TheVariants as header
use Rattle.call_rules.specs.declared.Outcome.TheVariants.{Address, Moves, Refused}
use Rattle.line_rules.specs.Lines.{setup_line, take_line, free_line, named_take_line, named_free_line, drop_line, call_line, stop_line, heap_line, heap_line_if}
use Rattle.line_rules.specs.Lines.{class_lines, run_line, run_line_if, final_lines, closing_lines}
use Rattle.line_rules.proofs.LineDefinitions.{line_definitions}

-- ---- the whole case
setup_printed : setup_line (record { processors = 1; superblocks = 2; spare = 1; p = 1; q = 4 }) ≡ letters "setup 1 2 1 1 4\n"
unfolding line_definitions
setup_printed = refl

take_printed : take_line 1 2048 (Address 4096) ≡ letters "take 1 2048 at 4096\n"
unfolding line_definitions
take_printed = refl

refused_take_printed : take_line 1 2049 (Refused 17) ≡ letters "take 1 2049 refused 17\n"
unfolding line_definitions
refused_take_printed = refl

free_printed : free_line 1 2048 (Moves 1) ≡ letters "free 1 2048 moved 1\n"
unfolding line_definitions
free_printed = refl

refused_free_printed : free_line 1 0 (Refused 7) ≡ letters "free 1 0 refused 7\n"
unfolding line_definitions
refused_free_printed = refl

-- ---- numbers that all differ: P, N, K, p, q; processor, size or address, and result
setup_line_case : setup_line (record { processors = 7; superblocks = 63; spare = 15; p = 3; q = 8 }) ≡ letters "setup 7 63 15 3 8\n"
unfolding line_definitions
setup_line_case = refl

take_line_case : take_line 3 1792 (Address 258048) ≡ letters "take 3 1792 at 258048\n"
unfolding line_definitions
take_line_case = refl

free_line_case : free_line 6 200704 (Moves 5) ≡ letters "free 6 200704 moved 5\n"
unfolding line_definitions
free_line_case = refl

stop_line_case : stop_line 10 59996 ≡ letters "stopped 10 at 59996\n"
unfolding line_definitions
stop_line_case = refl

heap_line_case : heap_line 8 26 64 128 ≡ letters "heap 8 class 26 superblocks 64 live 128\n"
unfolding line_definitions
heap_line_case = refl

-- size 0 (document 02, item 1)
size_0_line_case : take_line 1 0 (Address 0) ≡ letters "take 1 0 at 0\n"
unfolding line_definitions
size_0_line_case = refl

-- ---- calls by name (document 02, item 2): the page's lines, refused ones, and numbers that all differ
named_take_printed : named_take_line 1 5 2048 (Address 0) ≡ letters "take 1 name 5 2048 at 0\n"
unfolding line_definitions
named_take_printed = refl

named_free_printed : named_free_line 1 5 (Moves 0) ≡ letters "free 1 name 5 moved 0\n"
unfolding line_definitions
named_free_printed = refl

refused_named_take_printed : named_take_line 1 5 2048 (Refused 14) ≡ letters "take 1 name 5 2048 refused 14\n"
unfolding line_definitions
refused_named_take_printed = refl

refused_named_free_printed : named_free_line 1 5 (Refused 15) ≡ letters "free 1 name 5 refused 15\n"
unfolding line_definitions
refused_named_free_printed = refl

named_take_line_case : named_take_line 3 1023 1792 (Address 258048) ≡ letters "take 3 name 1023 1792 at 258048\n"
unfolding line_definitions
named_take_line_case = refl

named_free_line_case : named_free_line 6 712 (Moves 5) ≡ letters "free 6 name 712 moved 5\n"
unfolding line_definitions
named_free_line_case = refl

-- name 0 and size 0 print as 0, and a refused name as it is in the record
named_line_limit_cases : (named_take_line 1 0 0 (Address 16) ≡ letters "take 1 name 0 0 at 16\n")
    × (named_free_line 1 65535 (Refused 15) ≡ letters "free 1 name 65535 refused 15\n")
unfolding line_definitions
named_line_limit_cases = (refl, refl)

-- ---- drops (document 02, item 5): the page's line, a refused one, and numbers that all differ
drop_printed : drop_line 1 3 (Moves 1) ≡ letters "drop 1 count 3 moved 1\n"
unfolding line_definitions
drop_printed = refl

refused_drop_printed : drop_line 1 3 (Refused 7) ≡ letters "drop 1 count 3 refused 7\n"
unfolding line_definitions
refused_drop_printed = refl

drop_line_case : drop_line 6 120 (Moves 57) ≡ letters "drop 6 count 120 moved 57\n"
unfolding line_definitions
drop_line_case = refl

-- count 0 prints as 0; the longest line of a refused one
drop_line_limit_cases : (drop_line 4 0 (Refused 16) ≡ letters "drop 4 count 0 refused 16\n")
    × (drop_line 255 255 (Refused 16) ≡ letters "drop 255 count 255 refused 16\n")
unfolding line_definitions
drop_line_limit_cases = (refl, refl)

-- a drop's header with so many addresses beside it; no other call prints that number
call_line_cases : (call_line (header.Drop 6) 120 (Moves 57) ≡ letters "drop 6 count 120 moved 57\n")
    × (call_line (header.Free 6 200704) 120 (Moves 5) ≡ letters "free 6 200704 moved 5\n")
unfolding line_definitions
call_line_cases = (refl, refl)

-- ---- the lines at the end: P = 2, heap 0 too, two classes of heap 1, one of them with nothing live; the superblocks stand in another order,
-- others are unused, owner 3 is no heap where P is 2, and some are ranked, which no line shows
abbrev superblock : ℕ → ℕ → ℕ → ℕ → Superblock
superblock owner class marks rank = record { owner = owner; class = class; live = marks ∷ 0 ∷ 0 ∷ 0 ∷ []; rank = rank; run = 0 }

abbrev several_superblocks : State
several_superblocks =
    unnamed_state (record { processors = 2; superblocks = 63; spare = 15; p = 3; q = 8 }) (superblock 2 26 3 5 ∷ superblock 1 11 0 0 ∷ superblock 1 0 15 3
    ∷ superblock 3 8 1 8 ∷ superblock 2 26 3 2 ∷ unused ∷ superblock 1 11 0 0 ∷ superblock 0 9 31 1
    ∷ superblock 2 26 1 7 ∷ superblock 1 0 3 0 ∷ superblock 2 26 3 4 ∷ superblock 1 11 0 6 ∷ replicate 52 unused)

-- superblocks with nothing live have a line, and a class without a superblock has none
heap_line_if_of_nothing_live_case : heap_line_if 1 11 several_superblocks ≡ letters "heap 1 class 11 superblocks 3 live 0\n"
unfolding line_definitions
heap_line_if_of_nothing_live_case = refl

heap_line_if_of_no_superblock_case : heap_line_if 2 11 several_superblocks ≡ []
unfolding line_definitions
heap_line_if_of_no_superblock_case = refl

-- ---- runs (document 02, item 7): the page's line, and numbers that all differ
run_line_cases : (run_line 3 2 ≡ letters "run 3 superblocks 2\n") × (run_line 48 16 ≡ letters "run 48 superblocks 16\n")
unfolding line_definitions
run_line_cases = (refl, refl)

-- P = 1: heap 1's superblock, a run of two, one of one beside it, heap 0's superblock, and at the end of the table two runs more; an unused superblock that
-- carries a length, as no state that passes has, begins no run. Names 0, 1 and 1023 hold block 0 of superblock 0, the first run and the last, two
-- superblocks are ranked, and the totals kept are 0, as in no state that passes: no line shows names or ranks, and the lines are counted
abbrev several_runs : State
several_runs =
    record {
      setup = record { processors = 1; superblocks = 64; spare = 15; p = 3; q = 8 };
      table = superblock 1 11 1 2 ∷ run_part 2 ∷ run_part 0 ∷ run_part 1 ∷ superblock 0 9 3 1
          ∷ record { owner = 255; class = 0; live = 0 ∷ 0 ∷ 0 ∷ 0 ∷ []; rank = 0; run = 4 }
          ∷ replicate 55 unused ++ run_part 2 ∷ run_part 0 ∷ run_part 1 ∷ [];
      names = with_name (with_name (with_name no_names 0 0) 1 256) 1023 16128;
      totals = no_totals;
    }

-- a line for the first of a run alone, though a name holds it, and none for its others
run_line_if_cases : (run_line_if 1 several_runs ≡ letters "run 1 superblocks 2\n") × (run_line_if 2 several_runs ≡ []) × (run_line_if 5 several_runs ≡ [])
    × (run_line_if 4 several_runs ≡ [])
unfolding line_definitions name_definitions
run_line_if_cases = (refl, refl, refl, refl)

-- after a stop line nothing follows
closing_lines_cases : (closing_lines true several_superblocks ≡ []) × (closing_lines false several_superblocks ≡ final_lines several_superblocks)
unfolding line_definitions
closing_lines_cases = (refl, refl)

-- ---- the cases so far take little. Each that follows looks at every heap and class, and is computed where they and the one before it hold
unfoldable quick_lines_hold : Unit {0}
quick_lines_hold =
    setup_printed also take_printed also refused_take_printed also free_printed also refused_free_printed also setup_line_case also take_line_case
    also free_line_case also stop_line_case also heap_line_case also size_0_line_case also named_take_printed also named_free_printed
    also refused_named_take_printed also refused_named_free_printed also named_take_line_case also named_free_line_case also named_line_limit_cases
    also drop_printed also refused_drop_printed also drop_line_case also drop_line_limit_cases also call_line_cases
    also heap_line_if_of_nothing_live_case also heap_line_if_of_no_superblock_case also run_line_cases also run_line_if_cases also closing_lines_cases
    also tt

class_lines_case : class_lines 1 27 several_superblocks ≡ letters "heap 1 class 0 superblocks 2 live 6\n"
    ++ letters "heap 1 class 11 superblocks 3 live 0\n"
unfolding quick_lines_hold line_definitions
class_lines_case = refl

-- "by first superblock", after the heaps and "before `end`"
final_lines_with_runs_case : final_lines several_runs
    ≡ letters "heap 0 class 9 superblocks 1 live 2\nheap 1 class 11 superblocks 1 live 1\n"
    ++ letters "run 1 superblocks 2\nrun 3 superblocks 1\nrun 61 superblocks 2\nrun 63 superblocks 1\nend\n"
unfolding line_definitions name_definitions
final_lines_with_runs_case = let before = class_lines_case in refl

final_lines_case : final_lines several_superblocks
    ≡ letters "heap 0 class 9 superblocks 1 live 5\nheap 1 class 0 superblocks 2 live 6\n"
    ++ letters "heap 1 class 11 superblocks 3 live 0\nheap 2 class 26 superblocks 4 live 7\nend\n"
unfolding line_definitions
final_lines_case = let before = final_lines_with_runs_case in refl

-- the whole case's own: block 0 of class 0 is live in superblock 0, block 0 of class 26 in superblock 1
final_lines_of_whole_case : final_lines (unnamed_state (record { processors = 1; superblocks = 2; spare = 1; p = 1; q = 4 })
    (superblock 1 0 1 0 ∷ superblock 1 26 1 0 ∷ replicate 62 unused))
    ≡ letters "heap 1 class 0 superblocks 1 live 1\nheap 1 class 26 superblocks 1 live 1\nend\n"
unfolding line_definitions
final_lines_of_whole_case = let before = final_lines_case in refl
