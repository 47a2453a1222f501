-- `engine_state::setup` meets its contract. Assumes nothing.
use Rattle.engine_state.proofs.EntryLaws.{setup_clauses, setup_refused, setup_ready}
use Rattle.engine_state.proofs.setup.Goals as goal

pub returns-in-Err : goal.returns-in-Err
returns-in-Err c =
    let t = setup_clauses _ _
    (setup_refused _ _ _ _ _ _ _ (c.in-Err.ensures 1) c.refusal-refusal.ensures c.number.ensures c.no_state.ensures c.refuse.ensures.value) in
    record { order_after = t.0; number_and_values = t.1; passes = t.2 }

pub returns-in-Ok : goal.returns-in-Ok
returns-in-Ok c =
    let t = setup_clauses _ _ (setup_ready _ _ _ _ (c.in-Ok.ensures 1) (rw c.from.ensures at c.clear_order.ensures) c.new_state.ensures) in
    record { order_after = t.0; number_and_values = t.1; passes = t.2 }
