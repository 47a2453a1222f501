-- `call_drop::drop` meets its contract. Assumes nothing.
use mathlib.Core.Path.{◌∙◌}
use borrow.Author.Rules.{rules}
use Rattle.heap_laws.proofs.ShapeLaws.{shape_of_state}
use Rattle.call_outcomes.proofs.CallTestLaws.{refused_by_test, passed_by_test, call_clauses}
use Rattle.call_drop.specs.DropRefusal.{drop_refusal}
use Rattle.call_drop.proofs.DropUncheckedLaws.{drop_unchecked_by_test, addresses_can_be_tested, blocks_can_be_dropped}
use Rattle.call_drop.proofs.drop.Goals as goal

pub drop_refusal-requires : goal.drop_refusal-requires
drop_refusal-requires c = addresses_can_be_tested _ _ c.requires (search shape_of_state)

pub returns-in-Err : goal.returns-in-Err
returns-in-Err c =
    let a = c.args in
    let t = call_clauses _ (refused_by_test (drop_refusal a.s a.processor a.addresses.now) _ _ _ _ _ _ (search (c.in-Err.ensures, rules)) c.number.ensures
    c.refuse.ensures.value ∙ drop_unchecked_by_test _ _ _ _) in
    record { order_after = t.0; number_and_values = t.1 }

pub drop_all-requires : goal.drop_all-requires
drop_all-requires c = blocks_can_be_dropped _ _ c.requires c.args.processor c.args.addresses.now (search shape_of_state) (search (c.in-Ok.ensures, rules))

pub returns-in-Ok : goal.returns-in-Ok
returns-in-Ok c =
    let a = c.args in
    let t = call_clauses _ (passed_by_test (drop_refusal a.s a.processor a.addresses.now) _ _ _ _ (search (c.in-Ok.ensures, rules)) c.drop_all.ensures
    ∙ drop_unchecked_by_test _ _ _ _) in
    record { order_after = t.0; number_and_values = t.1 }
