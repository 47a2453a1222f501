-- `call_drop::restore_heaps` meets its contract. The loop's invariant: the heaps passed have made their moves. Assumes nothing.
use Prim.Native.Nat.{◌+◌, ◌≤◌}
use Rattle.call_drop.specs.DropSteps.{touched_in}
use Rattle.call_drop.proofs.RestoreLaws.{HeapsRestored}
use Rattle.call_drop.proofs.restore_heaps.Given as goal

abbrev pub invariant-loop-heap : goal.invariant-loop-heap
invariant-loop-heap l = (l.heap ≤ l.fn.s.setup.processors + 1) × HeapsRestored (touched_in l.touched) l.initial.m l.heap l.m
