-- The moves of a drop heap by heap and class by class, without a list of the touched ones: for the code, which goes this way, and not one of the rules.
use Rattle.std.specs.Prelude.{ℕ, zero, suc, Bool}
use Rattle.base_laws.specs.Sums.{pick}
use Rattle.class_rules.specs.Classes.{class_count}
use Rattle.heap_rules.specs.declared.Moved.{Moved}
use Rattle.call_rules.specs.Drop.{then_restored}

-- the touched classes of heap h below c
unfoldable pub classes_restored : (ℕ → ℕ → Bool) → ℕ → ℕ → Moved → Moved
classes_restored touched h zero before = before
classes_restored touched h (suc c) before = pick (touched h c) (then_restored h c (classes_restored touched h c before)) (classes_restored touched h c before)

-- those of the processor heaps 1 to n
unfoldable pub heaps_restored : (ℕ → ℕ → Bool) → ℕ → Moved → Moved
heaps_restored touched zero before = before
heaps_restored touched (suc h) before = classes_restored touched (suc h) class_count (heaps_restored touched h before)
