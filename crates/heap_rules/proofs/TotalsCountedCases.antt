-- Totals that are those of each heap and class, and totals of which one number alone is wrong. Assumes nothing.
use mathlib.Core.Path.{◌≡◌}
use mathlib.Core.List.{List, [], ◌∷◌, ◌++◌}
use Prim.Native.Nat.{ℕ}
use native.Mathlib.Omega.{arith}
use lib.ListN.{replicate}
use Rattle.base_laws.proofs.Stages.{◌also◌}
use Rattle.base_laws.specs.Sums.{sum_below}
use Rattle.marks_rules.specs.Marks.{bit, mark_bit, live_count}
use Rattle.names_rules.specs.Names.{no_names}
use Rattle.heap_rules.specs.declared.State.{State}
use Rattle.heap_rules.specs.Table.{unused, run_part}
use Rattle.heap_rules.specs.Counts.{total, belongs, one_if_belongs, live_if_belongs, superblocks_of, live_of}
use Rattle.heap_rules.specs.Totals.{superblocks_kept, live_kept, TotalsCounted}
use Rattle.heap_rules.proofs.TableCases.{of, small_setup, table_holds}

-- Numbers of each heap and class, all 0 but those of heap 0 and classes 0 and 24, of heap 1 and class 23, and of heap 8 and class 26, the last.
abbrev pub numbers : ℕ → ℕ → ℕ → ℕ → List ℕ
numbers a b c d = a ∷ replicate 23 0 ++ b ∷ replicate 25 0 ++ c ∷ replicate 191 0 ++ d ∷ []

-- Heap 0 has one superblock of class 24, with one live block; heap 1 two of class 23, with two and none; heap 8 superblock 63, of class 26, with
-- two. Of no heap are the unused ones and the two of a run. The totals are as given.
abbrev pub state_keeping : List ℕ → List ℕ → State
state_keeping superblocks live =
    record {
      setup = small_setup;
      table = of 1 23 5 ∷ unused ∷ of 0 24 2 ∷ of 1 23 0 ∷ run_part 2 ∷ run_part 0 ∷ replicate 57 unused ++ of 8 26 3 ∷ [];
      names = no_names;
      totals = record { superblocks = superblocks; live = live };
    }

-- with the right ones
abbrev pub state_counted : State
state_counted = state_keeping (numbers 0 1 2 1) (numbers 0 1 2 2)

-- what a case of them unfolds
unfoldable pub counted_definitions : Unit {0}
unfolding table_holds superblocks_kept live_kept superblocks_of live_of total one_if_belongs live_if_belongs belongs live_count mark_bit bit sum_below
counted_definitions = tt

-- one superblock more in heap 0, one fewer in heap 1 and in heap 8, or one in a class that has none
pub superblock_total_wrong_fails :
    (TotalsCounted (state_keeping (numbers 0 2 2 1) (numbers 0 1 2 2)) → ⊥)
    × (TotalsCounted (state_keeping (numbers 0 1 1 1) (numbers 0 1 2 2)) → ⊥)
    × (TotalsCounted (state_keeping (numbers 0 1 2 0) (numbers 0 1 2 2)) → ⊥)
    × (TotalsCounted (state_keeping (numbers 1 1 2 1) (numbers 0 1 2 2)) → ⊥)
unfolding counted_definitions
superblock_total_wrong_fails = (
  λ k. let z : ◌≡◌ {A = ℕ} 2 1 = (k 0 24 (omega arith) (omega arith)).0 in omega arith,
  λ k. let z : ◌≡◌ {A = ℕ} 1 2 = (k 1 23 (omega arith) (omega arith)).0 in omega arith,
  λ k. let z : ◌≡◌ {A = ℕ} 0 1 = (k 8 26 (omega arith) (omega arith)).0 in omega arith,
  λ k. let z : ◌≡◌ {A = ℕ} 1 0 = (k 0 0 (omega arith) (omega arith)).0 in omega arith,
)

-- the same of the live blocks
pub live_total_wrong_fails :
    (TotalsCounted (state_keeping (numbers 0 1 2 1) (numbers 0 0 2 2)) → ⊥)
    × (TotalsCounted (state_keeping (numbers 0 1 2 1) (numbers 0 1 3 2)) → ⊥)
    × (TotalsCounted (state_keeping (numbers 0 1 2 1) (numbers 0 1 2 1)) → ⊥)
    × (TotalsCounted (state_keeping (numbers 0 1 2 1) (numbers 1 1 2 2)) → ⊥)
unfolding counted_definitions
live_total_wrong_fails = (
  λ k. let z : ◌≡◌ {A = ℕ} 0 1 = (k 0 24 (omega arith) (omega arith)).1 in omega arith,
  λ k. let z : ◌≡◌ {A = ℕ} 3 2 = (k 1 23 (omega arith) (omega arith)).1 in omega arith,
  λ k. let z : ◌≡◌ {A = ℕ} 1 2 = (k 8 26 (omega arith) (omega arith)).1 in omega arith,
  λ k. let z : ◌≡◌ {A = ℕ} 1 0 = (k 0 0 (omega arith) (omega arith)).1 in omega arith,
)

unfoldable pub counted_hold : Unit {0}
counted_hold = superblock_total_wrong_fails also live_total_wrong_fails also tt
