-- The move rule by totals, and that the totals of a recount say of the heaps what the emptiness invariant asks. Assumes nothing.
use mathlib.Core.Path.{◌≡◌, refl, sym, ap, ap₂, ◌∙◌, subst}
use mathlib.Core.Bool.{Bool, true, false, not}
use Prim.Native.Nat.{ℕ, suc, ◌+◌, ◌-◌, ◌*◌, ◌≤◌, ◌<◌, zero-le}
use native.Mathlib.Nat.{zero-mul}
use native.Mathlib.Omega.{arith}
use mir.Syntax.{w8, w32}
use mir.Val.{Fits}
use borrow.Author.Tests.{le-leb, lt-leb}
use lib.Dec.{T, leb, leb→le}
use Rattle.base_laws.specs.Sums.{either, all_below}
use Rattle.base_laws.proofs.TestLaws.{T_of_true, equal_of_iff, both_left, both_right, both_false_right, either_right_of_left_false}
use Rattle.base_laws.proofs.Inequalities.{mul_le_of_bounds}
use Rattle.base_laws.proofs.SumLaws.{all_at, all_of_each, all_cong}
use Rattle.class_rules.specs.Classes.{class_count, blocks_of}
use Rattle.heap_rules.specs.declared.Setup.{Setup}
use Rattle.heap_rules.specs.declared.Totals.{Totals}
use Rattle.heap_rules.specs.declared.State.{State}
use Rattle.heap_rules.specs.Counts.{blocks_in}
use Rattle.heap_rules.specs.Totals.{heap_count, recounted}
use Rattle.move_rules.specs.Moves.{both_conditions, must_move}
use Rattle.check_rules.specs.Check.{within, emptiness_invariant}
use Rattle.heap_laws.proofs.TotalsLaws.{recounted_superblocks, recounted_live}
use Rattle.move_conditions.proofs.MoveRuleLaws.{both_conditions_false_where_first_fails}
use Rattle.check_invariant.specs.TotalsInvariant.{pair_invariant, class_invariant, heap_invariant, totals_invariant}

-- ---- one heap and class
module _ (u : Setup) (class superblocks live : ℕ) where
  -- without superblocks there is no block
  pub pair_invariant_of_no_superblocks : superblocks < 1 → true ≡ pair_invariant u class superblocks live
  unfolding pair_invariant
  pair_invariant_of_no_superblocks l =
      let z : superblocks ≡ 0 = omega arith in
      let h : superblocks * blocks_of class ≤ live + u.spare * blocks_of class = rw (z, zero-mul) zero-le in
      ap not (both_conditions_false_where_first_fails u.spare u.p u.q (blocks_of class) (superblocks * blocks_of class) live h)

  pub pair_invariant_by_both_conditions : (n : ℕ) (r : Bool) → n ≡ blocks_of class → r ≡ both_conditions u.spare u.p u.q n (superblocks * n) live
      → not r ≡ pair_invariant u class superblocks live
  unfolding pair_invariant
  pair_invariant_by_both_conditions n r e f = ap not (f ∙ ap (λ (m : ℕ). both_conditions u.spare u.p u.q m (superblocks * m) live) e)

-- the blocks of as many superblocks as a byte counts
pub blocks_of_byte_fit : (superblocks n : ℕ) → Fits w8 superblocks → n ≤ 256 → Fits w32 (superblocks * n)
blocks_of_byte_fit superblocks n p q = let h : superblocks * n ≤ 255 * 256 = mul_le_of_bounds 255 256 (omega arith) q in omega arith

-- ---- one heap
module _ (u : Setup) (t : Totals) (h : ℕ) where
  pub heap_invariant_of_heap_0 : h < 1 → true ≡ heap_invariant u t h
  unfolding heap_invariant
  heap_invariant_of_heap_0 l = sym (simp (lt-leb 1 h l))

  pub heap_invariant_past_processors : u.processors < h → true ≡ heap_invariant u t h
  unfolding heap_invariant
  heap_invariant_past_processors l = sym (either_no (within 1 u.processors h) _ (simp (lt-leb h u.processors l, both_false_right)))
    where
      either_no : (a b : Bool) → a ≡ false → either (not a) b ≡ true
      either_no a b e = rw e

  module _ (low : 1 ≤ h) (high : h ≤ u.processors) where
    pub heap_invariant_is_all_classes : heap_invariant u t h ≡ all_below (class_invariant u t h) class_count
    unfolding heap_invariant
    heap_invariant_is_all_classes = simp (le-leb 1 h low, le-leb h u.processors high)

-- ---- by the recount of a state's table
module _ (s : State) where
  -- heap h meets both conditions of the move rule in no class
  no_class_must_move : ℕ → Bool
  no_class_must_move h = all_below (λ c. not (must_move h c s)) class_count

  classes_by_recount : (h : ℕ) → h < heap_count → all_below (class_invariant s.setup (recounted s.table) h) class_count ≡ no_class_must_move h
  unfolding pair_invariant must_move blocks_in no_class_must_move
  classes_by_recount h lh =
      all_cong (class_invariant s.setup (recounted s.table) h) (λ c. not (must_move h c s)) class_count
      (λ c lc. ap₂ (λ (m l : ℕ). not (both_conditions s.setup.spare s.setup.p s.setup.q (blocks_of c) (m * blocks_of c) l))
      (recounted_superblocks s h c lh lc) (recounted_live s h c lh lc))

  module _ (few : s.setup.processors < heap_count) where
    emptiness_invariant_of_totals : T (totals_invariant s.setup (recounted s.table)) → T (emptiness_invariant s)
    unfolding totals_invariant heap_invariant emptiness_invariant no_class_must_move
    emptiness_invariant_of_totals all = all_of_each (λ i. no_class_must_move (suc i)) s.setup.processors each
      where
        each : (i : ℕ) → i < s.setup.processors → T (no_class_must_move (suc i))
        each i l =
            let low : 1 ≤ suc i = omega arith in
            let high : suc i ≤ s.setup.processors = omega arith in
            let at : suc i < heap_count = omega arith in
            subst T (classes_by_recount (suc i) at)
            (either_right_of_left_false (not (within 1 s.setup.processors (suc i))) _
            (all_at (heap_invariant s.setup (recounted s.table)) heap_count all (suc i) at)
            (simp (le-leb 1 (suc i) low, le-leb (suc i) s.setup.processors high)))

    totals_of_emptiness_invariant : T (emptiness_invariant s) → T (totals_invariant s.setup (recounted s.table))
    unfolding totals_invariant heap_invariant emptiness_invariant no_class_must_move
    totals_of_emptiness_invariant all = all_of_each (heap_invariant s.setup (recounted s.table)) heap_count
        (λ h l. go h l (within 1 s.setup.processors h) refl)
      where
        go : (h : ℕ) → h < heap_count → (b : Bool) → within 1 s.setup.processors h ≡ b
            → T (either (not b) (all_below (class_invariant s.setup (recounted s.table) h) class_count))
        go h l true e =
            let w = T_of_true _ e in
            let low : 1 ≤ h = leb→le 1 h (both_left (leb 1 h) (leb h s.setup.processors) w) in
            let high : h ≤ s.setup.processors = leb→le h s.setup.processors (both_right (leb 1 h) (leb h s.setup.processors) w) in
            let m : suc (h - 1) ≡ h = omega arith in
            subst T (sym (classes_by_recount h l))
            (subst (λ (i : ℕ). T (no_class_must_move i)) m (all_at (λ i. no_class_must_move (suc i)) s.setup.processors all (h - 1) (omega arith)))
        go h l false e = tt

    -- where there is a total for each processor's heap, the totals of a recount keep the invariant exactly if the state does
    pub totals_invariant_of_recount : totals_invariant s.setup (recounted s.table) ≡ emptiness_invariant s
    totals_invariant_of_recount = equal_of_iff _ _ emptiness_invariant_of_totals totals_of_emptiness_invariant
