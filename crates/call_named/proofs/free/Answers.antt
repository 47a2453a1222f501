-- `call_named::free` meets its contract. Assumes nothing.
use mathlib.Core.Path.{◌∙◌}
use borrow.Author.Rules.{rules}
use Rattle.call_outcomes.proofs.CallTestLaws.{refused_by_test, passed_by_test, call_clauses}
use Rattle.call_named.specs.NamedRefusals.{named_free_refusal}
use Rattle.call_named.proofs.NamedCallLaws.{named_free_unchecked_by_test}
use Rattle.call_named.proofs.free.Goals as goal

pub returns-in-Err : goal.returns-in-Err
returns-in-Err c =
    let a = c.args in
    let t = call_clauses _ (refused_by_test (named_free_refusal a.s a.processor a.name) _ _ _ _ _ _ (search (c.in-Err.ensures, rules)) c.number.ensures
    c.refuse.ensures.value ∙ named_free_unchecked_by_test _ _ _ _) in
    record { order_after = t.0; number_and_values = t.1 }

pub returns-in-Ok : goal.returns-in-Ok
returns-in-Ok c =
    let a = c.args in
    let t = call_clauses _ (passed_by_test (named_free_refusal a.s a.processor a.name) _ _ _ _ (search (c.in-Ok.ensures, rules))
    (rw (← c.held_address.ensures) c.free.ensures.order_after) ∙ named_free_unchecked_by_test _ _ _ _) in
    record { order_after = t.0; number_and_values = t.1 }
