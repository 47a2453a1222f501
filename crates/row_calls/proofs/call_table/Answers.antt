-- `row_calls::call_table` meets its contract. Assumes nothing.
use Rattle.std.proofs.Common.{arith}
use Rattle.row_calls.proofs.RowCallLaws.{refused_call_is_call_on, answered_call_is_call_on, refused_call_passes_if_accepted}
use Rattle.row_calls.proofs.RowCallLaws.{number_and_values_of_row_after}
use Rattle.row_calls.proofs.call_table.Goals as goal

pub returns-in-Err-clause-order_after : goal.returns-in-Err-clause-order_after
returns-in-Err-clause-order_after c =
    refused_call_is_call_on _ _ _ _ _ c.number.ensures _ c.refuse.ensures.value _ _ _ (c.in-Err.ensures.number 13 (omega arith)) c.refusal-refusal.ensures

pub returns-in-Err-clause-number_and_values : goal.returns-in-Err-clause-number_and_values
returns-in-Err-clause-number_and_values c = number_and_values_of_row_after _ _ _ (returns-in-Err-clause-order_after c)

pub returns-in-Err-clause-passes : goal.returns-in-Err-clause-passes
returns-in-Err-clause-passes c = refused_call_passes_if_accepted _ _ _ _ _ c.number.ensures _ c.refuse.ensures.value

pub returns-in-Ok-clause-order_after : goal.returns-in-Ok-clause-order_after
returns-in-Ok-clause-order_after c =
    answered_call_is_call_on _ _ _ _ _ _ c.answered.ensures.value _ _ (c.in-Ok.ensures.number 13 (omega arith))
    (rw c.state_of-s.ensures at c.call_state.ensures.order_after)

pub returns-in-Ok-clause-number_and_values : goal.returns-in-Ok-clause-number_and_values
returns-in-Ok-clause-number_and_values c = number_and_values_of_row_after _ _ _ (returns-in-Ok-clause-order_after c)
