-- The superblocks that are not the global heap's: each move takes one away, so that the moves of several heaps and classes, one after another, are at
-- most 64. Assumes nothing.
use Rattle.std.specs.Prelude.{Some}
use mathlib.Core.Path.{◌≡◌, refl, ap, ◌∙◌}
use mathlib.Core.Bool.{Bool, not}
use Prim.Native.Nat.{ℕ, zero, suc, ◌+◌, ◌≤◌, ◌<◌}
use native.Mathlib.Omega.{arith}
use borrow.Author.Tests.{ne_eqb, eqb-false}
use lib.ListN.{length}
use lib.Dec.{T, eqb}
use Rattle.base_laws.specs.Sums.{one}
use Rattle.base_laws.proofs.TestLaws.{T_of_true, one_le_one, pick_elim}
use Rattle.base_laws.proofs.Counting.{sum_le_of_terms_le_one}
use Rattle.heap_rules.specs.declared.Superblock.{Superblock}
use Rattle.heap_rules.specs.declared.State.{State}
use Rattle.heap_rules.specs.declared.Moved.{Moved}
use Rattle.heap_rules.specs.Table.{superblock_at, with_owner}
use Rattle.heap_rules.specs.Counts.{total}
use Rattle.choice_rules.specs.Choice.{emptiest}
use Rattle.move_rules.specs.Moves.{must_move, transferred, found_transferred, transfers_up_to, excess_transferred, invariant_restored}
use Rattle.heap_laws.proofs.ChoiceLaws.{best_of_emptiest}
use Rattle.heap_laws.proofs.CountLaws.{total_with_superblock, owner_and_class_of_belongs}
use Rattle.heap_laws.proofs.MoveLaws.{emptiest_found_of_must_move, length_of_found_transferred}

-- 1 for a superblock that is not heap 0's, and how many there are
abbrev pub one_if_outside_global : Superblock → ℕ
one_if_outside_global b = one (not (eqb b.owner 0))

abbrev pub outside_global : State → ℕ
outside_global s = total one_if_outside_global s.table

pub outside_global_le_64 : (s : State) → outside_global s ≤ 64
unfolding total
outside_global_le_64 s = sum_le_of_terms_le_one (λ k. one_if_outside_global (superblock_at s k)) 64 (λ k l. one_le_one (not (eqb (superblock_at s k).owner 0)))

-- ---- one move
module _ (h c : ℕ) (s : State) (long : length s.table ≡ 64) (pos : 0 < h) where
  one_less_outside_global : (k : ℕ) → emptiest h c s ≡ Some k → outside_global (transferred k s) + 1 ≡ outside_global s
  unfolding transferred
  one_less_outside_global k e =
      let best = best_of_emptiest h c s k e in
      let owner : (superblock_at s k).owner ≡ h = (owner_and_class_of_belongs h c (superblock_at s k) best.meets_criterion_lem).0 in
      let outside : one_if_outside_global (superblock_at s k) ≡ 1 =
      ap (λ (x : Bool). one (not x)) (ne_eqb (superblock_at s k).owner 0 (λ z. let no : ⊥ = omega arith in no)) in
      omega (arith, total_with_superblock one_if_outside_global s k (with_owner 0 (superblock_at s k)) long best.below)

  one_less_after_found_transferred : T (must_move h c s) → outside_global (found_transferred (emptiest h c s) s) + 1 ≡ outside_global s
  unfolding found_transferred
  one_less_after_found_transferred must = let w = emptiest_found_of_must_move h c s must in rw w.1 (one_less_outside_global w.0 w.1)

-- ---- the moves of a heap and class
-- moves and the superblocks outside heap 0 that they leave
abbrev pub moves_and_outside_global : Moved → ℕ
moves_and_outside_global m = m.moves + outside_global m.state

transfers_leave_heaps : (k h c m : ℕ) (s : State) → length s.table ≡ 64 → 0 < h → moves_and_outside_global (transfers_up_to k h c m s) ≡ m + outside_global s
unfolding transfers_up_to
transfers_leave_heaps zero h c m s long pos = refl
transfers_leave_heaps (suc k) h c m s long pos =
    pick_elim (λ (w : Moved). moves_and_outside_global w ≡ m + outside_global s) (must_move h c s)
    (transfers_up_to k h c (m + 1) (found_transferred (emptiest h c s) s)) (record { moves = m; state = s })
    (λ e. let less = one_less_after_found_transferred h c s long pos (T_of_true (must_move h c s) e) in
    transfers_leave_heaps k h c (m + 1) (found_transferred (emptiest h c s) s) (length_of_found_transferred (emptiest h c s) s ∙ long) pos ∙ omega arith)
    (λ e. refl)

-- each takes one superblock to heap 0
pub moves_leave_heaps : (h c : ℕ) (s : State) → length s.table ≡ 64 → moves_and_outside_global (invariant_restored h c s) ≡ outside_global s
unfolding invariant_restored excess_transferred
moves_leave_heaps h c s long =
    pick_elim (λ (w : Moved). moves_and_outside_global w ≡ outside_global s) (eqb h 0) (record { moves = 0; state = s }) (transfers_up_to 64 h c 0 s)
    (λ e. omega arith)
    (λ e. transfers_leave_heaps 64 h c 0 s long (let f = eqb-false h 0 e in omega arith) ∙ omega arith)
