-- The totals of each heap and class, in cases that tell the recount from near misses, by computation. Assumes nothing.
use mathlib.Core.Path.{◌≡◌, refl, ap}
use mathlib.Core.Bool.{Bool, true, false}
use mathlib.Core.List.{List, [], ◌∷◌, ◌++◌, map}
use Prim.Native.Nat.{ℕ, ◌+◌}
use native.Mathlib.Omega.{arith}
use lib.ListN.{get_or, replicate}
use lib.Dec.{eqb, eqb→eq}
use Rattle.base_laws.proofs.Stages.{◌also◌}
use Rattle.base_laws.specs.Sums.{both, sum_below, all_below}
use Rattle.base_laws.proofs.TestLaws.{T_of_true, both_left, both_right}
use Rattle.base_laws.proofs.SumLaws.{all_at}
use Rattle.base_laws.specs.Lists.{increased, listed}
use Rattle.marks_rules.specs.Marks.{bit, mark_bit, live_count}
use Rattle.heap_rules.specs.declared.Superblock.{Superblock}
use Rattle.heap_rules.specs.declared.Totals.{Totals}
use Rattle.heap_rules.specs.declared.State.{State}
use Rattle.heap_rules.specs.Table.{unused}
use Rattle.heap_rules.specs.Totals.{superblocks_kept, live_kept, is_counted, with_counted, counted_below, recounted, TotalsCounted, total_index, no_totals}
use Rattle.heap_rules.specs.Totals.{TotalsKept}
use Rattle.heap_rules.specs.Counts.{superblocks_of, live_of}
use Rattle.heap_rules.specs.States.{with_superblock, with_names}
use Rattle.heap_rules.proofs.CaseStates.{unnamed_state}
use Rattle.heap_rules.proofs.TableCases.{of, ranked, small_setup}
use Rattle.heap_rules.proofs.RankCases.{ranks_hold}
use Rattle.heap_rules.proofs.RunCases.{runs_hold}
use Rattle.heap_rules.proofs.RunAtCases.{run_at_hold}
use Rattle.heap_rules.proofs.TotalsCountedCases.{state_counted, counted_definitions, counted_hold}

-- Totals take longer to compute than all other cases of the crate, which come first.
unfoldable others_hold : Unit {0}
others_hold = ranks_hold also runs_hold also run_at_hold also counted_hold also tt

-- a state whose totals of superblocks are 0, 1, 2, .. and those of live blocks 500, 501, ..; and a table of one superblock, of heap 0 and class 26
-- with three marks
abbrev numbered_totals : State
numbered_totals = record {
  setup = small_setup;
  table = [];
  names = [];
  totals = record { superblocks = listed (λ x. x) 243; live = listed (λ x. 500 + x) 243 };
}

abbrev counted_table : List Superblock
counted_table = of 0 26 7 ∷ replicate 63 unused

-- of heaps 0 to 8 and classes 0 to 26
pub is_counted_cases : map is_counted (of 0 24 2 ∷ of 8 26 0 ∷ of 1 0 5 ∷ of 9 3 1 ∷ of 254 0 1 ∷ of 1 27 1 ∷ unused ∷ []) ≡ true ∷ true ∷ true ∷ false
    ∷ false ∷ false ∷ false ∷ []
unfolding others_hold is_counted
is_counted_cases = refl

-- "the superblocks of heap h and class c, and the live blocks in them, stand at h × 27 + c": the last class of heap 0 beside the first of heap 1, and
-- the last of all
pub total_index_cases :
    total_index 0 26 ∷ total_index 1 0 ∷ total_index 1 23 ∷ total_index 8 26 ∷ [] ≡ 26 ∷ 27 ∷ 50 ∷ 242 ∷ []
    × map (λ (x : ℕ × ℕ). superblocks_kept x.0 x.1 (numbered_totals)) ((0, 26) ∷ (1, 0) ∷ (8, 26) ∷ []) ≡ 26 ∷ 27 ∷ 242 ∷ []
    × map (λ (x : ℕ × ℕ). live_kept x.0 x.1 (numbered_totals)) ((0, 26) ∷ (1, 0) ∷ (8, 26) ∷ []) ≡ 526 ∷ 527 ∷ 742 ∷ []
unfolding others_hold superblocks_kept live_kept listed
total_index_cases = (refl, refl, refl)

-- the totals are kept only where both kinds are the recount
pub other_totals_not_kept :
    (TotalsKept (record {
      setup = small_setup;
      table = counted_table;
      names = [];
      totals = record { superblocks = (recounted counted_table).superblocks; live = no_totals.live };
    }) → ⊥)
    × (TotalsKept (record {
      setup = small_setup;
      table = counted_table;
      names = [];
      totals = record { superblocks = no_totals.superblocks; live = (recounted counted_table).live };
    }) → ⊥)
unfolding others_hold recounted counted_below with_counted is_counted increased live_count sum_below mark_bit bit
other_totals_not_kept = (
  λ k. let z : ◌≡◌ {A = ℕ} 0 3 = ap (λ (t : Totals). get_or t.live 26 9) k in omega arith,
  λ k. let z : ◌≡◌ {A = ℕ} 0 1 =
      ap (λ (t : Totals). get_or t.superblocks 26 9) k in omega arith,
)

-- Heap 1 has two superblocks of class 23, with two live blocks and none, heap 0 one of class 24 with one, heap 8 one of class 26 with two. Of no heap or
-- no class are an unused one, one with owner 9, one with owner 254 and one with class 27. Two are ranked, which no total goes by.
abbrev pub counted_state : State
counted_state = unnamed_state small_setup (ranked 1 23 5 2 ∷ unused ∷ ranked 0 24 2 1 ∷ of 1 23 0 ∷ of 9 3 1 ∷ of 254 0 1 ∷ of 1 27 1 ∷ replicate 56 unused
    ++ of 8 26 3 ∷ [])

-- superblocks and live blocks of heaps and classes, and of all together
abbrev pub totals_seen : State → List (ℕ × ℕ)
totals_seen s =
    map (λ (x : ℕ × ℕ). (superblocks_kept x.0 x.1 s, live_kept x.0 x.1 s)) ((1, 23) ∷ (0, 24) ∷ (8, 26) ∷ (2, 0) ∷ (0, 0) ∷ (0, 23) ∷ (1, 24) ∷ [])
    ++ (sum_below (λ x. get_or s.totals.superblocks x 0) 243, sum_below (λ x. get_or s.totals.live x 0) 243) ∷ []

pub recounted_cases : totals_seen counted_state ≡ (2, 2) ∷ (1, 1) ∷ (1, 2) ∷ (0, 0) ∷ (0, 0) ∷ (0, 0) ∷ (0, 0) ∷ (4, 5) ∷ []
unfolding superblocks_kept live_kept recounted counted_below with_counted is_counted increased live_count sum_below mark_bit bit
recounted_cases = let before = is_counted_cases in let index = total_index_cases in let kept = other_totals_not_kept in refl

-- superblock 0 passes to heap 0 and class 24 with one live block: heap 1's are one fewer, heap 0's one more; then superblock 63 is unused, and other
-- names change none
pub totals_after_changes :
    totals_seen (with_superblock counted_state 0 (of 0 24 1)) ∷ totals_seen (with_names (with_superblock counted_state 63 unused) []) ∷ []
    ≡ ((1, 0) ∷ (2, 2) ∷ (1, 2) ∷ (0, 0) ∷ (0, 0) ∷ (0, 0) ∷ (0, 0) ∷ (4, 4) ∷ [])
    ∷ ((2, 2) ∷ (1, 1) ∷ (0, 0) ∷ (0, 0) ∷ (0, 0) ∷ (0, 0) ∷ (0, 0) ∷ (3, 3) ∷ []) ∷ []
unfolding superblocks_kept live_kept recounted counted_below with_counted is_counted increased live_count sum_below mark_bit bit
totals_after_changes = let before = recounted_cases in refl

-- totals that are right, by the tests of each of 9 heaps and 27 classes
abbrev is_right_at : State → ℕ → ℕ → Bool
is_right_at s h c = both (eqb (superblocks_kept h c s) (superblocks_of h c s)) (eqb (live_kept h c s) (live_of h c s))

totals_counted_by_test : (s : State) → all_below (λ h. all_below (is_right_at s h) 27) 9 ≡ true → TotalsCounted s
unfolding others_hold
totals_counted_by_test s e h c l m =
    let t = all_at (is_right_at s h) 27 (all_at (λ g. all_below (is_right_at s g) 27) 9 (T_of_true _ e) h l) c m in
    let superblocks = eqb (superblocks_kept h c s) (superblocks_of h c s) in
    let live = eqb (live_kept h c s) (live_of h c s) in
    (eqb→eq (superblocks_kept h c s) _ (both_left superblocks live t), eqb→eq (live_kept h c s) _ (both_right superblocks live t))

pub totals_counted_holds : TotalsCounted state_counted
unfolding counted_definitions all_below
totals_counted_holds = let before = totals_after_changes in totals_counted_by_test state_counted refl
