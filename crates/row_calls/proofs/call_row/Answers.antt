-- `row_calls::call_row` meets its contract. Assumes nothing.
use Rattle.std.proofs.Common.{◌≡◌, ap}
use Rattle.call_rules.specs.Calls.{call_with}
use Rattle.call_rules.proofs.AnswerLaws.{has_number_and_values_of_equal}
use Rattle.row_rules.specs.Row.{RowAfter, row_after, row_call}
use Rattle.row_calls.proofs.LoadStoreLaws.{stored_call_is_row_call, stored_call_passes_if_accepted}
use Rattle.row_calls.proofs.call_row.Goals as goal

pub returns-clause-order_after : goal.returns-clause-order_after
returns-clause-order_after c =
    stored_call_is_row_call _ _ _ _ _ c.load-t.ensures _ c.is_accepted.ensures c.store.ensures _ _ _ c.call_table-called.ensures.order_after

pub returns-clause-number_and_values : goal.returns-clause-number_and_values
returns-clause-number_and_values c =
    let after : row_after c.call_table-called.result.answer c.store.new.row c.call_table-called.new.order
    ≡ row_call c.args.control c.args.row.now c.args.order.now (call_with c.args.call c.args.addresses.now) = returns-clause-order_after c in
    has_number_and_values_of_equal _ _ (ap (λ (x : RowAfter). x.outcome) after)

pub returns-clause-passes : goal.returns-clause-passes
returns-clause-passes c =
    stored_call_passes_if_accepted _ _ _ _ _ c.load-t.ensures _ c.is_accepted.ensures c.store.ensures _ _ _
    c.call_table-called.ensures.order_after c.call_table-called.ensures.passes
