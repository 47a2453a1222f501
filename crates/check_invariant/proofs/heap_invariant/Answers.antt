-- `check_invariant::heap_invariant` meets its contract: a heap of no processor, and all classes of one that has a processor. Assumes nothing.
use Rattle.std.proofs.Common.{◌≤◌, refl, sym, ◌∙◌, rules, arith}
use borrow.Author.Tests.{tests}
use Rattle.std.proofs.lemmas.Bool.Decides.{nat_tests}
use Rattle.std.proofs.lemmas.Iterator.{YieldsList-from_range}
use Rattle.std.proofs.lemmas.Iterator.Search.{all_from_yields_List}
use Rattle.check_invariant.specs.TotalsInvariant.{class_invariant}
use Rattle.check_invariant.proofs.AllBelowLaws.{all_below_is_list_all}
use Rattle.check_invariant.proofs.EmptinessInvariantLaws.{heap_invariant_of_heap_0, heap_invariant_past_processors, heap_invariant_is_all_classes}
use Rattle.check_invariant.proofs.heap_invariant.Goals.{then-heap-eq0, else-heap-eq0}
use Rattle.check_invariant.proofs.heap_invariant.Goals as goal

pub returns-then-setup-heap : goal.returns-then-setup-heap
returns-then-setup-heap c =
    c.if-setup-heap.true
    ∙ elim c.if-heap-eq0.branch [
      | then-heap-eq0 w ↦ heap_invariant_of_heap_0 _ _ _ (omega arith)
      | else-heap-eq0 w ↦ heap_invariant_past_processors _ _ _ (grind (arith, nat_tests))
    ]

pub returns-else-setup-heap : goal.returns-else-setup-heap
returns-else-setup-heap c =
    let test = class_invariant c.args.setup c.args.t.now c.args.heap in
    let low : 1 ≤ c.args.heap = grind (arith, nat_tests) in
    let high : c.args.heap ≤ c.args.setup.processors = grind (arith, nat_tests) in
    all_from_yields_List test _ _ _ c.all.ensures.ran (YieldsList-from_range _ _ _ refl refl) (λ x b q k. search (rules, tests))
    ∙ all_below_is_list_all test _ ∙ sym (heap_invariant_is_all_classes c.args.setup c.args.t.now c.args.heap low high)
