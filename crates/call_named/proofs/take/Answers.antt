-- `call_named::take` meets its contract. Assumes nothing.
use mathlib.Core.Path.{◌∙◌}
use borrow.Author.Rules.{rules}
use Rattle.call_outcomes.proofs.CallTestLaws.{refused_by_test, passed_by_test, call_clauses}
use Rattle.call_named.specs.NamedRefusals.{named_take_refusal}
use Rattle.call_named.proofs.NamedCallLaws.{named_take_unchecked_by_test, plain_take_with_name_bound}
use Rattle.call_named.proofs.take.Goals as goal

pub returns-in-Err : goal.returns-in-Err
returns-in-Err c =
    let a = c.args in
    let t = call_clauses _ (refused_by_test (named_take_refusal a.s a.processor a.name) _ _ _ _ _ _ (search (c.in-Err.ensures, rules)) c.number.ensures
    c.refuse.ensures.value ∙ named_take_unchecked_by_test _ _ _ _ _) in
    record { order_after = t.0; number_and_values = t.1 }

pub returns-in-Ok : goal.returns-in-Ok
returns-in-Ok c =
    let bound = plain_take_with_name_bound _ _ _ _ _ _ _ _ c.take-plain.ensures.order_after c.bound_by.ensures in
    let a = c.args in
    let t = call_clauses _ (passed_by_test (named_take_refusal a.s a.processor a.name) _ _ _ _ (search (c.in-Ok.ensures, rules)) bound
    ∙ named_take_unchecked_by_test _ _ _ _ _) in
    record { order_after = t.0; number_and_values = t.1 }
