-- The moves of a drop, over all its heaps and classes: at most 64 in all. Assumes nothing.
use mathlib.Core.Path.{◌≡◌, refl, ◌∙◌}
use mathlib.Core.Bool.{Bool}
use mathlib.Core.List.{List, [], ◌∷◌}
use Prim.Native.Nat.{ℕ, zero, suc, ◌+◌, ◌≤◌}
use native.Mathlib.Omega.{arith}
use lib.ListN.{length, length-set}
use Rattle.base_laws.proofs.TestLaws.{pick_elim}
use Rattle.class_rules.specs.Classes.{class_count}
use Rattle.heap_rules.specs.declared.State.{State}
use Rattle.heap_rules.specs.declared.Moved.{Moved}
use Rattle.heap_rules.specs.Totals.{TotalsKept}
use Rattle.heap_laws.proofs.MovesKeepLaws.{length_of_invariant_restored, totals_kept_of_invariant_restored}
use Rattle.heap_laws.proofs.OutsideGlobalLaws.{outside_global, outside_global_le_64, moves_and_outside_global, moves_leave_heaps}
use Rattle.base_laws.proofs.ListedLaws.{length_listed}
use Rattle.heap_rules.specs.Ranks.{ranked_latest}
use Rattle.call_rules.specs.Free.{superblock_index, superblock_holding, is_in_run, mark_cleared, small_block_freed, long_block_freed, block_freed}
use Rattle.call_rules.specs.Drop.{all_freed, is_touched, then_restored, drop_moves}
use Rattle.call_rules.specs.DropLoops.{classes_restored, heaps_restored}
use Rattle.call_rules.proofs.TouchedPairLaws.{drop_moves_by_heaps}
use Rattle.call_laws.proofs.RunEffectLaws.{run_freed_keeps_rest}

-- ---- what the move rule of one heap and class keeps, that of all touched keeps
module _ (P : Moved → Type 0) (kept : (h c : ℕ) (before : Moved) → P before → P (then_restored h c before)) (touched : ℕ → ℕ → Bool) where
  pub classes_restored_keep : (h c : ℕ) (before : Moved) → P before → P (classes_restored touched h c before)
  unfolding classes_restored
  classes_restored_keep h zero before p = p
  classes_restored_keep h (suc c) before p =
      let q = classes_restored_keep h c before p in
      pick_elim P (touched h c) (then_restored h c (classes_restored touched h c before)) (classes_restored touched h c before)
      (λ e. kept h c (classes_restored touched h c before) q) (λ e. q)

  pub heaps_restored_keep : (n : ℕ) (before : Moved) → P before → P (heaps_restored touched n before)
  unfolding heaps_restored
  heaps_restored_keep zero before p = p
  heaps_restored_keep (suc h) before p = classes_restored_keep (suc h) class_count (heaps_restored touched h before) (heaps_restored_keep h before p)

-- ---- the totals are kept
pub then_restored_keeps_totals : (h c : ℕ) (before : Moved) → TotalsKept before.state → TotalsKept (then_restored h c before).state
unfolding then_restored
then_restored_keeps_totals h c before = totals_kept_of_invariant_restored h c before.state

-- ---- each move takes one superblock to heap 0
-- so many superblocks were moved or are outside heap 0, in a table of 64
abbrev MovedOrOutside : ℕ → Moved → Type 0
MovedOrOutside n m = (length m.state.table ≡ 64) × (moves_and_outside_global m ≡ n)

then_restored_moved_or_outside : (n h c : ℕ) (before : Moved) → MovedOrOutside n before → MovedOrOutside n (then_restored h c before)
unfolding then_restored
then_restored_moved_or_outside n h c before p =
    (length_of_invariant_restored h c before.state p.0, omega (arith, p.1, moves_leave_heaps h c before.state p.0))

pub then_restored_leaves_heaps : (h c : ℕ) (before : Moved) → length before.state.table ≡ 64 → moves_and_outside_global (then_restored h c before)
    ≡ moves_and_outside_global before
then_restored_leaves_heaps h c before long = (then_restored_moved_or_outside (moves_and_outside_global before) h c before (long, refl)).1

pub heaps_restored_leave_heaps : (touched : ℕ → ℕ → Bool) (n : ℕ) (before : Moved) → length before.state.table ≡ 64
    → (heaps_restored touched n before).moves + outside_global (heaps_restored touched n before).state ≡ before.moves + outside_global before.state
heaps_restored_leave_heaps touched n before long =
    (heaps_restored_keep (MovedOrOutside (moves_and_outside_global before)) (then_restored_moved_or_outside (moves_and_outside_global before)) touched n before
    (long, refl)).1

pub drop_moves_le_64 : (s : State) (addresses : List ℕ) → length (all_freed s addresses).table ≡ 64 → (drop_moves s addresses).moves ≤ 64
drop_moves_le_64 s addresses long =
    rw (drop_moves_by_heaps s addresses)
    (omega (
      arith,
      heaps_restored_leave_heaps (is_touched s addresses) s.setup.processors (record { moves = 0; state = all_freed s addresses }) long,
      outside_global_le_64 (all_freed s addresses),
    ))

-- ---- the table has 64 superblocks
-- ranking a superblock makes a table of 64, and a run's superblocks are replaced one by one
pub length_of_block_freed : (s : State) (a : ℕ) → length s.table ≡ 64 → length (block_freed s a).table ≡ 64
unfolding block_freed long_block_freed small_block_freed mark_cleared ranked_latest
length_of_block_freed s a long =
    pick_elim (λ (t : State). length t.table ≡ 64) (is_in_run s a) (long_block_freed s a) (small_block_freed s a)
    (λ e. (run_freed_keeps_rest (superblock_index a) (superblock_holding s a).run s).length_is long)
    (λ e. length-set (ranked_latest (superblock_index a) s).table (superblock_index a) _ ∙ length_listed _ 64)

pub length_of_all_freed : (s : State) (addresses : List ℕ) → length s.table ≡ 64 → length (all_freed s addresses).table ≡ 64
unfolding all_freed
length_of_all_freed s [] long = long
length_of_all_freed s (a ∷ addresses) long = length_of_all_freed (block_freed s a) addresses (length_of_block_freed s a long)

pub length_of_drop_moves : (s : State) (addresses : List ℕ) → length s.table ≡ 64 → length (drop_moves s addresses).state.table ≡ 64
unfolding then_restored
length_of_drop_moves s addresses long =
    rw (drop_moves_by_heaps s addresses)
    (heaps_restored_keep (λ m. length m.state.table ≡ 64) (λ h c before p. length_of_invariant_restored h c before.state p) (is_touched s addresses)
    s.setup.processors
    (record { moves = 0; state = all_freed s addresses }) (length_of_all_freed s addresses long))
