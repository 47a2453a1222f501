-- `call_drop::restore_classes` meets its contract. The loop's invariant: the classes passed have made their moves. Assumes nothing.
use Rattle.call_drop.specs.DropSteps.{touched_of_heap}
use Rattle.call_drop.proofs.RestoreLaws.{ClassesRestored}
use Rattle.call_drop.proofs.restore_classes.Given as goal

abbrev pub invariant-loop-class : goal.invariant-loop-class
invariant-loop-class l = ClassesRestored (touched_of_heap l.touched) l.heap l.initial.m l.class l.m
