-- The whole check of a state in cases that each fail one clause, by computation; P is 1, to keep them cheap. Assumes nothing.
use mathlib.Core.Path.{◌≡◌, refl}
use mathlib.Core.Bool.{true, false}
use mathlib.Core.List.{List, [], ◌∷◌, ◌++◌}
use Prim.Native.Nat.{ℕ}
use lib.ListN.{replicate}
use Rattle.names_rules.specs.Names.{no_names, with_name}
use Rattle.heap_rules.specs.declared.Superblock.{Superblock}
use Rattle.heap_rules.specs.declared.State.{State}
use Rattle.heap_rules.specs.Table.{unused, run_part}
use Rattle.heap_rules.specs.Totals.{no_totals}
use Rattle.heap_rules.specs.States.{with_superblock, with_names}
use Rattle.check_rules.specs.Check.{passes}
use Rattle.heap_rules.proofs.TableCases.{of, ranked}
use Rattle.heap_rules.proofs.CaseStates.{unnamed_state}
use Rattle.check_rules.proofs.CheckCases.{setup_with}
use Rattle.check_rules.proofs.CheckDefinitions.{check_definitions}

-- P = 1, N = 3, K = 1, p/q = 3/7. Heap 1 has superblock 0, of class 23 with blocks 0 and 2 live, and 2, which is full; heap 0 has 1, of class 24 with
-- block 1 live.
abbrev pub three_superblocks : State
three_superblocks = unnamed_state (setup_with 1 3 1 3 7) (of 1 23 5 ∷ of 0 24 2 ∷ of 1 25 3 ∷ replicate 61 unused)

abbrev pub three_superblocks_order : List ℕ
three_superblocks_order = 1 ∷ replicate 255 8 ++ 0 ∷ replicate 511 9

-- it passes; and does not with q = 9; with a place that holds another block; with superblock 3 in use; with two empty ones of class 26 in heap 1;
-- with heap 0's just not sparse; with a name at block 0 of superblock 1, which is not live; with totals of 0; with superblocks 0 and 1 both of rank 1
pub passes_cases :
    passes three_superblocks three_superblocks_order
    ∷ passes (unnamed_state (setup_with 1 3 1 3 9) three_superblocks.table) three_superblocks_order
    ∷ passes three_superblocks (2 ∷ replicate 255 8 ++ 0 ∷ replicate 511 9)
    ∷ passes (with_superblock three_superblocks 3 (of 1 26 3)) three_superblocks_order
    ∷ passes (unnamed_state (setup_with 1 4 1 3 7) (of 1 23 5 ∷ of 1 26 0 ∷ of 1 25 3 ∷ of 1 26 0 ∷ replicate 60 unused))
    (1 ∷ replicate 255 8 ++ 0 ∷ 1 ∷ replicate 510 9 ++ 0 ∷ 1 ∷ [])
    ∷ passes (unnamed_state (setup_with 1 3 1 4 8) three_superblocks.table) three_superblocks_order
    ∷ passes (with_names three_superblocks (with_name three_superblocks.names 9 256)) three_superblocks_order
    ∷ passes (record { setup = three_superblocks.setup; table = three_superblocks.table; names = no_names; totals = no_totals }) three_superblocks_order
    ∷ passes (unnamed_state three_superblocks.setup (ranked 1 23 5 1 ∷ ranked 0 24 2 1 ∷ of 1 25 3 ∷ replicate 61 unused)) three_superblocks_order
    ∷ []
    ≡ true ∷ false ∷ false ∷ false ∷ false ∷ false ∷ false ∷ false ∷ false ∷ []
unfolding check_definitions
passes_cases = refl

-- ---- long blocks (document 02, item 7): the same superblocks, and behind them a run of two from 3 on with N superblocks in all, whose first block
-- name 9 holds
abbrev pub with_run_behind : ℕ → ℕ → State
with_run_behind n length =
    with_names (unnamed_state (setup_with 1 n 1 3 7) (of 1 23 5 ∷ of 0 24 2 ∷ of 1 25 3 ∷ run_part length ∷ run_part 0 ∷ replicate 59 unused))
    (with_name no_names 9 768)

-- it passes, though the places of the run hold nothing of use; and does not where it ends behind N; with its last superblock left over; with the name
-- at block 0 of its last
pub passes_with_run_cases :
    passes (with_run_behind 5 2) three_superblocks_order
    ∷ passes (with_run_behind 4 2) three_superblocks_order
    ∷ passes (with_run_behind 5 1) three_superblocks_order
    ∷ passes (with_names (with_run_behind 5 2) (with_name no_names 9 1024)) three_superblocks_order
    ∷ []
    ≡ true ∷ false ∷ false ∷ false ∷ []
unfolding check_definitions
passes_with_run_cases = refl

-- ---- heap 0's superblock, and the last one: the same superblocks with a place of heap 0's that holds its live block. Then with superblock 63 in
-- use: N = 64 and it is heap 1's and full, or heap 0's with one of its two blocks live, which pass; of an owner above P; heap 0's with a place that
-- holds its live block, and heap 0's and full; and heap 1's and full where N = 63
abbrev pub with_last : ℕ → Superblock → State
with_last n b = unnamed_state (setup_with 1 n 1 3 7) (of 1 23 5 ∷ of 0 24 2 ∷ of 1 25 3 ∷ replicate 60 unused ++ b ∷ [])

abbrev pub order_with_last : ℕ → List ℕ
order_with_last j = three_superblocks_order ++ replicate 15360 9 ++ j ∷ replicate 255 9

pub passes_of_heap_0_and_last_cases :
    passes three_superblocks (1 ∷ replicate 255 8 ++ 1 ∷ replicate 511 9)
    ∷ passes (with_last 64 (of 1 26 3)) (order_with_last 5)
    ∷ passes (with_last 64 (of 0 26 1)) (order_with_last 1)
    ∷ passes (with_last 64 (of 2 26 3)) (order_with_last 5)
    ∷ passes (with_last 64 (of 0 26 1)) (order_with_last 0)
    ∷ passes (with_last 64 (of 0 26 3)) (order_with_last 5)
    ∷ passes (with_last 63 (of 1 26 3)) (order_with_last 5)
    ∷ []
    ≡ false ∷ true ∷ true ∷ false ∷ false ∷ false ∷ false ∷ []
unfolding check_definitions
passes_of_heap_0_and_last_cases = refl
