-- The moves of a drop, heap by heap and class by class as the code goes. Assumes nothing.
use mathlib.Core.Path.{◌≡◌, refl, ap, ◌∙◌}
use mathlib.Core.Bool.{Bool, true, false}
use Prim.Native.Nat.{ℕ, zero, suc, ◌+◌, ◌-◌, ◌≤◌, ◌<◌}
use native.Mathlib.Nat.{le_refl}
use native.Mathlib.Numerals.{add-one}
use native.Mathlib.Omega.{arith}
use mir.Syntax.{w8}
use mir.Val.{Fits}
use lib.ListN.{length}
use Rattle.base_laws.specs.Sums.{pick}
use Rattle.class_rules.specs.Classes.{class_count}
use Rattle.heap_rules.specs.declared.State.{State}
use Rattle.heap_rules.specs.declared.Moved.{Moved}
use Rattle.heap_rules.specs.Totals.{TotalsKept}
use Rattle.move_rules.specs.Moves.{invariant_restored}
use Rattle.heap_laws.proofs.MovesKeepLaws.{length_of_invariant_restored}
use Rattle.heap_laws.proofs.OutsideGlobalLaws.{outside_global_le_64, moves_leave_heaps}
use Rattle.call_rules.specs.Drop.{then_restored}
use Rattle.call_rules.specs.DropLoops.{classes_restored, heaps_restored}
use Rattle.call_laws.proofs.DropMoveLaws.{classes_restored_keep, then_restored_keeps_totals, then_restored_leaves_heaps}
use Rattle.call_drop.specs.DropSteps.{CanMove}

-- ---- one heap and class
module _ (h c : ℕ) (before m : Moved) (can : CanMove before) (e : m ≡ invariant_restored h c before.state) where
  pub moves_added_fit_w8 : Fits w8 (before.moves + m.moves)
  moves_added_fit_w8 = record { fits = rw e (omega (arith, can.moves_fit, moves_leave_heaps h c before.state can.length_is)) }

pub then_restored_by_steps : (h c : ℕ) (before m : Moved) → m ≡ invariant_restored h c before.state
    → ◌≡◌ {A = Moved} (record { moves = before.moves + m.moves; state = m.state }) (then_restored h c before)
unfolding then_restored
then_restored_by_steps h c before m e = rw e

-- ---- what the next heap and class asks
can_move_after_pair : (h c : ℕ) (before : Moved) → CanMove before → CanMove (then_restored h c before)
unfolding then_restored
can_move_after_pair h c before can = record {
  length_is = length_of_invariant_restored h c before.state can.length_is;
  totals = then_restored_keeps_totals h c before can.totals;
  moves_fit = omega (arith, can.moves_fit, then_restored_leaves_heaps h c before can.length_is);
}

-- ---- a heap's classes: those below the class have made their moves
pub record ClassesRestored (touched : ℕ → ℕ → Bool) (h : ℕ) (before : Moved) (c : ℕ) (m : Moved) : Type 0 where
  pub restored_are : m ≡ classes_restored touched h c before
  pub can_move : CanMove m

module _ (touched : ℕ → ℕ → Bool) (h : ℕ) (before : Moved) where
  pub no_class_restored : CanMove before → ClassesRestored touched h before 0 before
  unfolding classes_restored
  no_class_restored can = record { restored_are = refl; can_move = can }

  module _ (c : ℕ) (m : Moved) (so : ClassesRestored touched h before c m) where
    pub touched_class_restored : (next r : Moved) → touched h c ≡ true → r ≡ then_restored h c m → next ≡ r → ClassesRestored touched h before (c + 1) next
    unfolding classes_restored
    touched_class_restored next r t er e =
        rw (add-one, e, er) (record { restored_are = rw t (ap (then_restored h c) so.restored_are); can_move = can_move_after_pair h c m so.can_move })

    pub untouched_class_restored : (next : Moved) → touched h c ≡ false → next ≡ m → ClassesRestored touched h before (c + 1) next
    unfolding classes_restored
    untouched_class_restored next f e = rw (add-one, e) (record { restored_are = rw f so.restored_are; can_move = so.can_move })

  pub all_classes_restored : (m : Moved) (c : ℕ) → ClassesRestored touched h before c m → c ≤ class_count → class_count ≤ c
      → m ≡ classes_restored touched h class_count before
  all_classes_restored m c so high low = so.restored_are ∙ ap (λ (n : ℕ). classes_restored touched h n before) (omega arith)

-- ---- what is touched, told in another way
module _ (touched told : ℕ → ℕ → Bool) where
  classes_restored_cong : (h c : ℕ) (before : Moved) → ((d : ℕ) → d < c → told h d ≡ touched h d) → classes_restored told h c before
      ≡ classes_restored touched h c before
  unfolding classes_restored
  classes_restored_cong h zero before e = refl
  classes_restored_cong h (suc c) before e =
      ap (λ (b : Bool). pick b (then_restored h c (classes_restored told h c before)) (classes_restored told h c before)) (e c (le_refl (suc c)))
      ∙ ap (λ (m : Moved). pick (touched h c) (then_restored h c m) m) (classes_restored_cong h c before (λ d l. e d (omega arith)))

  pub heaps_restored_cong : (n : ℕ) (before : Moved) → ((h c : ℕ) → h ≤ n → c < class_count → told h c ≡ touched h c) → heaps_restored told n before
      ≡ heaps_restored touched n before
  unfolding heaps_restored
  heaps_restored_cong zero before e = refl
  heaps_restored_cong (suc h) before e =
      ap (classes_restored told (suc h) class_count) (heaps_restored_cong h before (λ i c l. e i c (omega arith)))
      ∙ classes_restored_cong (suc h) class_count (heaps_restored touched h before) (λ d l. e (suc h) d (le_refl (suc h)) l)

-- ---- the heaps: those from 1 to below the heap have made theirs
pub record HeapsRestored (touched : ℕ → ℕ → Bool) (before : Moved) (h : ℕ) (m : Moved) : Type 0 where
  pub heap_low : 1 ≤ h
  pub restored_are : m ≡ heaps_restored touched (h - 1) before
  pub can_move : CanMove m

module _ (touched : ℕ → ℕ → Bool) where
  pub no_heap_restored : (s : State) → length s.table ≡ 64 → TotalsKept s → HeapsRestored touched (record { moves = 0; state = s }) 1
      (record { moves = 0; state = s })
  unfolding heaps_restored
  no_heap_restored s long kept =
      record {
        heap_low = le_refl 1;
        restored_are = refl;
        can_move = record { length_is = long; totals = kept; moves_fit = omega (arith, outside_global_le_64 s) };
      }

  module _ (before m : Moved) (h : ℕ) (so : HeapsRestored touched before h m) where
    -- the heap's classes may be told in another way
    pub heap_restored : (told : ℕ → ℕ → Bool) (next : Moved) → ((c : ℕ) → c < class_count → told h c ≡ touched h c)
        → next ≡ classes_restored told h class_count m → HeapsRestored touched before (h + 1) next
    unfolding heaps_restored
    heap_restored told next same_classes e = record {
      heap_low = omega arith;
      restored_are =
          moved
          ∙ ap (classes_restored touched h class_count) so.restored_are
          ∙ ap (λ (n : ℕ). classes_restored touched n class_count (heaps_restored touched (h - 1) before)) (up so.heap_low)
          ∙ ap (λ (n : ℕ). heaps_restored touched n before) (same so.heap_low);
      can_move = rw moved (classes_restored_keep CanMove can_move_after_pair touched h class_count m so.can_move);
    }
      where
        moved : next ≡ classes_restored touched h class_count m
        moved = e ∙ classes_restored_cong touched told h class_count m same_classes

        up : 1 ≤ h → h ≡ suc (h - 1)
        up l = omega arith

        same : 1 ≤ h → suc (h - 1) ≡ h + 1 - 1
        same l = omega arith

    pub all_heaps_restored : (n : ℕ) → h ≤ n + 1 → n < h → m ≡ heaps_restored touched n before
    all_heaps_restored n high low = so.restored_are ∙ ap (λ (k : ℕ). heaps_restored touched k before) (omega arith)
