-- The moves of the touched heaps and classes one after another are those of the code's way through them. Assumes nothing.
use mathlib.Core.Path.{◌≡◌, refl, sym, ap, ◌∙◌}
use mathlib.Core.Bool.{Bool, true, false}
use mathlib.Core.List.{List, [], ◌∷◌, ◌++◌}
use Prim.Native.Nat.{ℕ, zero, suc}
use Rattle.base_laws.specs.Sums.{pick}
use Rattle.class_rules.specs.Classes.{class_count}
use Rattle.heap_rules.specs.declared.State.{State}
use Rattle.heap_rules.specs.declared.Moved.{Moved}
use Rattle.call_rules.specs.Drop.{Pair, all_freed, is_touched, then_restored, touched_classes, touched_pairs, each_restored, drop_moves}
use Rattle.call_rules.specs.DropLoops.{classes_restored, heaps_restored}

each_restored_append : (x y : List Pair) (before : Moved) → each_restored (x ++ y) before ≡ each_restored y (each_restored x before)
unfolding each_restored
each_restored_append [] y before = refl
each_restored_append (pair ∷ x) y before = each_restored_append x y (then_restored pair.heap pair.class before)

classes_restored_is_each : (touched : ℕ → ℕ → Bool) (h c : ℕ) (before : Moved) → classes_restored touched h c before
    ≡ each_restored (touched_classes touched h c) before
unfolding classes_restored touched_classes each_restored
classes_restored_is_each touched h zero before = refl
classes_restored_is_each touched h (suc c) before = go (touched h c) (classes_restored_is_each touched h c before)
    ∙ sym (each_restored_append (touched_classes touched h c) (pick (touched h c) (record { heap = h; class = c } ∷ []) []) before)
  where
    go : (t : Bool) → classes_restored touched h c before ≡ each_restored (touched_classes touched h c) before
        → pick t (then_restored h c (classes_restored touched h c before)) (classes_restored touched h c before)
        ≡ each_restored (pick t (record { heap = h; class = c } ∷ []) []) (each_restored (touched_classes touched h c) before)
    go true e = ap (then_restored h c) e
    go false e = e

heaps_restored_is_each : (touched : ℕ → ℕ → Bool) (n : ℕ) (before : Moved) → heaps_restored touched n before ≡ each_restored (touched_pairs touched n) before
unfolding heaps_restored touched_pairs each_restored
heaps_restored_is_each touched zero before = refl
heaps_restored_is_each touched (suc h) before =
    classes_restored_is_each touched (suc h) class_count (heaps_restored touched h before) ∙ ap (each_restored (touched_classes touched (suc h) class_count))
    (heaps_restored_is_each touched h before)
    ∙ sym (each_restored_append (touched_pairs touched h) (touched_classes touched (suc h) class_count) before)

-- the moves of a drop, heap by heap and class by class
pub drop_moves_by_heaps : (s : State) (addresses : List ℕ) → drop_moves s addresses ≡ heaps_restored (is_touched s addresses) s.setup.processors
    (record { moves = 0; state = all_freed s addresses })
unfolding drop_moves
drop_moves_by_heaps s addresses =
    sym (heaps_restored_is_each (is_touched s addresses) s.setup.processors (record { moves = 0; state = all_freed s addresses }))
