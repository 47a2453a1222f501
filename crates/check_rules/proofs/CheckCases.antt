-- The clauses of the check of a state in cases that tell them from near misses, by computation. Assumes nothing.
use mathlib.Core.Path.{◌≡◌, refl}
use mathlib.Core.Bool.{Bool, true, false}
use mathlib.Core.List.{List, [], ◌∷◌, ◌++◌, map}
use Prim.Native.Nat.{ℕ, ◌-◌, ◌^◌}
use lib.ListN.{replicate}
use Rattle.base_laws.proofs.Stages.{◌also◌}
use Rattle.base_laws.specs.Lists.{increased}
use Rattle.names_rules.specs.Names.{no_names, with_name}
use Rattle.heap_rules.specs.declared.Superblock.{Superblock}
use Rattle.heap_rules.specs.declared.Setup.{Setup}
use Rattle.heap_rules.specs.declared.Totals.{Totals}
use Rattle.heap_rules.specs.declared.State.{State}
use Rattle.heap_rules.specs.Table.{unused}
use Rattle.heap_rules.specs.Totals.{no_totals, superblocks_kept, live_kept}
use Rattle.heap_rules.specs.States.{with_names}
use Rattle.check_rules.specs.Check.{within_limits, superblock_valid, unused_from, sparse_if_global, names_valid, totals_valid}
use Rattle.heap_rules.proofs.TableCases.{of, small_setup}
use Rattle.heap_rules.proofs.CaseStates.{unnamed_state}
use Rattle.check_rules.proofs.CheckDefinitions.{check_definitions}
use Rattle.check_rules.proofs.ClauseLaws.{clauses_hold}

-- ---- "P 1 to 8, N 1 to 64, K 1 to 16, p 1 to q - 1, q 2 to 8": at each limit, and one past it
abbrev pub setup_with : ℕ → ℕ → ℕ → ℕ → ℕ → Setup
setup_with processors superblocks spare p q = record { processors = processors; superblocks = superblocks; spare = spare; p = p; q = q }

-- "The fraction p/q need not be reduced."
pub within_limits_cases :
    map within_limits (setup_with 1 1 1 1 2 ∷ setup_with 8 64 16 7 8 ∷ setup_with 3 9 12 2 4 ∷ []) ≡ true ∷ true ∷ true ∷ []
    × map within_limits (setup_with 0 9 12 2 5 ∷ setup_with 9 9 12 2 5 ∷ setup_with 3 0 12 2 5 ∷ setup_with 3 65 12 2 5 ∷ setup_with 3 9 0 2 5
    ∷ setup_with 3 9 17 2 5 ∷ []) ≡ replicate 6 false
    × map within_limits (setup_with 3 9 12 0 5 ∷ setup_with 3 9 12 5 5 ∷ setup_with 3 9 12 6 5 ∷ setup_with 3 9 12 0 1 ∷ setup_with 3 9 12 1 1
    ∷ setup_with 3 9 12 2 9 ∷ []) ≡ replicate 6 false
unfolding clauses_hold check_definitions
within_limits_cases = (refl, refl, refl)

-- ---- one superblock. P = 2; superblock 1's places hold 4, 0, 2 and then 9s
abbrev pub valid_as_superblock_1 : Superblock → Bool
valid_as_superblock_1 b = superblock_valid small_setup (replicate 256 7 ++ 4 ∷ 0 ∷ 2 ∷ replicate 253 9) 1 b

-- owner above P; owner 255 with a class or a mark; no class 27; a mark at n; a filled place that holds a live block, or one of another superblock
pub superblock_invalid_cases : map valid_as_superblock_1 (of 3 20 10 ∷ of 255 20 10 ∷ of 255 1 0 ∷ of 255 0 1 ∷ of 1 27 0 ∷ of 2 26 7 ∷ of 1 20 9
    ∷ of 1 20 2 ∷ []) ≡ replicate 8 false
unfolding clauses_hold check_definitions
superblock_invalid_cases = refl

-- "in an owned superblock the filled order places hold each unmarked block below n just once", in heap 0 and in the last heap as in heap 1: a filled
-- place that holds a live block, or one of another superblock; in heap 0 a mark at n
pub places_of_each_heap_cases : map valid_as_superblock_1 (of 0 20 9 ∷ of 0 20 2 ∷ of 0 26 7 ∷ of 2 20 9 ∷ of 2 20 2 ∷ []) ≡ replicate 5 false
unfolding clauses_hold check_definitions
places_of_each_heap_cases = refl

-- each has its own places: of class 26 with block 0 live, or block 1, as superblock 0, whose first place holds 1, and as superblock 1, whose first holds 0
pub places_of_own_superblock_cases :
    map (λ (k : ℕ). superblock_valid small_setup (1 ∷ replicate 255 7 ++ 0 ∷ replicate 255 7) k (of 1 26 1)) (0 ∷ 1 ∷ []) ≡ true ∷ false ∷ []
    × map (λ (k : ℕ). superblock_valid small_setup (1 ∷ replicate 255 7 ++ 0 ∷ replicate 255 7) k (of 1 26 2)) (0 ∷ 1 ∷ []) ≡ false ∷ true ∷ []
unfolding clauses_hold check_definitions
places_of_own_superblock_cases = (refl, refl)

-- "superblocks from N on unused", for N = 5: superblocks 4, 5 and 6, in use and unused
pub unused_from_cases :
    map (λ (k : ℕ). unused_from 5 k (of 1 26 0)) (4 ∷ 5 ∷ 6 ∷ []) ≡ true ∷ false ∷ false ∷ []
    × map (λ (k : ℕ). unused_from 5 k unused) (4 ∷ 5 ∷ 63 ∷ []) ≡ true ∷ true ∷ true ∷ []
unfolding clauses_hold check_definitions
unused_from_cases = (refl, refl)

-- "each superblock of heap 0 has q × live < (q - p) × n": with 3/7, of class 24, 7 × 1 < 4 × 2, and of class 18, 7 × 4 < 4 × 8 and not 7 × 5;
-- with 4/8, 8 × 1 is 4 × 2. No other heap's superblock need have.
pub sparse_if_global_cases :
    map (sparse_if_global small_setup) (of 0 24 2 ∷ of 0 24 3 ∷ of 0 18 15 ∷ of 0 18 31 ∷ of 1 24 3 ∷ of 0 24 0 ∷ []) ≡ true ∷ false ∷ true ∷ false ∷ true
    ∷ true ∷ []
    × map (sparse_if_global (setup_with 2 5 1 4 8)) (of 0 24 1 ∷ of 0 24 0 ∷ []) ≡ false ∷ true ∷ []
unfolding clauses_hold check_definitions
sparse_if_global_cases = (refl, refl)

-- the cases so far take little. Each that follows takes longer, and is computed where they and the one before it hold
unfoldable quick_checks_hold : Unit {0}
quick_checks_hold =
    within_limits_cases also superblock_invalid_cases also places_of_each_heap_cases also places_of_own_superblock_cases also unused_from_cases
    also sparse_if_global_cases also tt

-- ---- "each held name points at a live block, no two at one". Superblock 1, of heap 2 and class 20, has blocks 1 and 3 live, superblock 2, of heap 0
-- and class 17, block 0, superblock 63 its block 255
abbrev pub state_with_names : List ℕ → State
state_with_names names =
    with_names (unnamed_state small_setup (unused ∷ of 2 20 10 ∷ of 0 17 1 ∷ replicate 60 unused
    ++ record { owner = 1; class = 0; live = 0 ∷ 0 ∷ 0 ∷ 2 ^ 63 ∷ []; rank = 0; run = 0 } ∷ [])) names

-- no names; each live block named, by the first name and the last too; a name at block 2 of superblock 1, at block 3 of superblock 0, at block 1 of
-- superblock 64, at the last number that is a block's; two names at block 1 of superblock 1, the first and the last, and two neighbours
pub names_valid_cases :
    map (λ (l : List ℕ). names_valid (state_with_names l))
    (no_names ∷ with_name (with_name (with_name (with_name no_names 0 257) 1023 259) 512 16383) 513 512
    ∷ with_name no_names 0 258 ∷ with_name no_names 1023 3 ∷ with_name no_names 7 16385 ∷ with_name no_names 7 65534
    ∷ with_name (with_name no_names 0 257) 1023 257 ∷ with_name (with_name no_names 7 257) 8 257 ∷ [])
    ≡ true ∷ true ∷ false ∷ false ∷ false ∷ false ∷ false ∷ false ∷ []
unfolding quick_checks_hold check_definitions
names_valid_cases = refl

-- ---- "equal to the recount": the totals of three superblocks, heap 1's of class 23 with two live blocks and of class 25, full, and heap 0's of
-- class 24 with one
abbrev pub with_totals : Totals → State
with_totals t = let s = unnamed_state small_setup (of 1 23 5 ∷ of 0 24 2 ∷ of 1 25 3 ∷ replicate 61 unused) in
    record { setup = s.setup; table = s.table; names = s.names; totals = t }

-- these, changed: n more superblocks at x, m more live blocks at y
abbrev pub totals_with : ℕ → ℕ → ℕ → ℕ → Totals
totals_with n x m y =
    record {
      superblocks = increased 24 1 (increased x n (increased 50 1 (increased 52 1 no_totals.superblocks)));
      live = increased 24 1 (increased y m (increased 50 2 (increased 52 2 no_totals.live)));
    }

-- of heap 3, which is above P, alone: quick
pub totals_above_P_cases : map (λ (t : Totals). totals_valid (with_totals t)) (totals_with 1 81 0 0 ∷ totals_with 0 0 1 81 ∷ []) ≡ false ∷ false ∷ []
unfolding check_definitions superblocks_kept live_kept
totals_above_P_cases = let before = names_valid_cases in refl

-- right; then wrong by one: superblocks, live blocks, of heap 1, of heap 0, of heap 3, which is above P, and of the last heap and class; by the widest numbers
pub totals_valid_cases :
    map (λ (t : Totals). totals_valid (with_totals t))
    (totals_with 0 0 0 0 ∷ totals_with 1 50 0 0 ∷ totals_with 0 0 1 50 ∷ totals_with 1 24 0 0 ∷ totals_with 0 0 1 24 ∷ totals_with 1 81 0 0
    ∷ totals_with 0 0 1 81 ∷ totals_with 1 242 0 0 ∷ totals_with 0 0 1 242 ∷ totals_with 0 0 65535 0 ∷ no_totals ∷ [])
    ≡ true ∷ replicate 10 false
unfolding check_definitions superblocks_kept live_kept
totals_valid_cases = let before = totals_above_P_cases in refl

-- one too few, and two that cancel out: a live block, or a superblock, in another class of the heap, or in another heap
abbrev pub exchanged_totals : ℕ → ℕ → ℕ → ℕ → Totals
exchanged_totals a b c d =
    record {
      superblocks = increased 24 1 (increased 50 a (increased 52 b no_totals.superblocks));
      live = increased 24 1 (increased 50 c (increased 52 d no_totals.live));
    }

pub totals_cancel_cases :
    map (λ (t : Totals). totals_valid (with_totals t)) (exchanged_totals 1 1 2 2 ∷ exchanged_totals 0 1 2 2 ∷ exchanged_totals 1 1 2 1
    ∷ exchanged_totals 2 0 2 2 ∷ exchanged_totals 1 1 1 3 ∷ [])
    ≡ true ∷ replicate 4 false
unfolding check_definitions
totals_cancel_cases = let before = totals_valid_cases in refl

-- ---- one superblock again: unused; of heap 0, 1 and 2; with all its blocks live; of class 26, with its last block live
pub superblock_valid_cases : map valid_as_superblock_1 (unused ∷ of 0 20 10 ∷ of 1 20 10 ∷ of 2 20 10 ∷ of 2 26 3 ∷ []) ≡ replicate 5 true
unfolding check_definitions
superblock_valid_cases = let before = totals_cancel_cases in refl

unfoldable pub checks_hold : Unit {0}
checks_hold = superblock_valid_cases also tt
