-- `line_heap::heap_line_if` meets its contract: by the number of superblocks that is kept. Assumes nothing.
use native.Mathlib.Omega.{arith}
use borrow.Author.Rules.{rules}
use Prim.Native.Nat.{◌*◌, ◌+◌}
use Rattle.line_heap.proofs.HeapLineLaws.{heap_line_if_of_none, heap_line_if_of_some}
use Rattle.line_heap.proofs.heap_line_if.Goals as goal

pub returns-then-superblocks-eq0 : goal.returns-then-superblocks-eq0
returns-then-superblocks-eq0 c =
    let a = c.args in
    let r = c.requires in
    rw (heap_line_if_of_none a.heap a.class a.s r.0 r.1 r.2 (a.heap * 27 + a.class) (omega arith) (search (c.if-superblocks-eq0.true, rules)))
    c.put_nothing.ensures

pub returns-else-superblocks-eq0 : goal.returns-else-superblocks-eq0
returns-else-superblocks-eq0 c =
    let a = c.args in
    let r = c.requires in
    rw (heap_line_if_of_some a.heap a.class a.s r.0 r.1 r.2 (a.heap * 27 + a.class) (omega arith) (λ z. c.if-superblocks-eq0.false (search (z, rules))))
    (search (c.heap_line.ensures, rules))
