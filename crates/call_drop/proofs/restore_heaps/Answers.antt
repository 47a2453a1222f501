use Rattle.std.proofs.Common.{refl, arith}
use Rattle.base_laws.proofs.ReplacedElement.{length_of_length_map}
use Rattle.call_drop.proofs.RestoreLaws.{no_heap_restored, heap_restored, all_heaps_restored}
use Rattle.call_drop.proofs.restore_heaps.Goals as goal

pub loop-heap-init : goal.loop-heap-init
loop-heap-init c = (omega arith, search (no_heap_restored, length_of_length_map))

pub loop-heap-preserved : goal.loop-heap-preserved
loop-heap-preserved c = (omega arith, heap_restored _ _ _ _ c.loop-heap.invariant.1 _ _ (λ d l. refl) c.restore_classes-m.ensures)

pub returns : goal.returns
returns c = search all_heaps_restored

pub returns-2 : goal.returns-2
returns-2 c =
    all_heaps_restored _ _ _ _ (heap_restored _ _ _ _ c.loop-heap.invariant.1 _ _ (λ d l. refl) c.restore_classes-m.ensures) _
    (omega arith) (omega arith)
