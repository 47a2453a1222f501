-- `engine_state::call_state` meets its contract. Assumes nothing.
use Rattle.heap_laws.proofs.ShapeLaws.{shape_of_state}
use Rattle.engine_state.proofs.EntryLaws.{call_state_clauses, call_refused_by_check, call_is_call_unchecked, unchecked_calls, passes_of_no_refusal}
use Rattle.engine_state.proofs.call_state.Goals as goal

pub returns-in-Err : goal.returns-in-Err
returns-in-Err c =
    let t = call_state_clauses _ _ _ (search shape_of_state) (call_refused_by_check _ _ _ _ _ _ c.in-Err.ensures c.number.ensures c.refuse.ensures.value) in
    record { order_after = t.0; number_and_values = t.1; passes = t.2; moves = t.3 }

pub take-requires : goal.take-requires
take-requires c = passes_of_no_refusal _ _ c.in_default.ensures

pub free-requires : goal.free-requires
free-requires c = passes_of_no_refusal _ _ c.in_default.ensures

pub take-requires-in-NamedTake : goal.take-requires-in-NamedTake
take-requires-in-NamedTake c = passes_of_no_refusal _ _ c.in_default.ensures

pub free-requires-in-NamedFree : goal.free-requires-in-NamedFree
free-requires-in-NamedFree c = passes_of_no_refusal _ _ c.in_default.ensures

pub drop-requires : goal.drop-requires
drop-requires c = passes_of_no_refusal _ _ c.in_default.ensures

pub returns-in-Take : goal.returns-in-Take
returns-in-Take c =
    let t = call_state_clauses _ _ _ (search shape_of_state) (call_is_call_unchecked _ _ _ _ c.in_default.ensures (search unchecked_calls)) in
    record { order_after = t.0; number_and_values = t.1; passes = t.2; moves = t.3 }

pub returns-in-Free : goal.returns-in-Free
returns-in-Free c =
    let t = call_state_clauses _ _ _ (search shape_of_state) (call_is_call_unchecked _ _ _ _ c.in_default.ensures (search unchecked_calls)) in
    record { order_after = t.0; number_and_values = t.1; passes = t.2; moves = t.3 }

pub returns-in-NamedTake : goal.returns-in-NamedTake
returns-in-NamedTake c =
    let t = call_state_clauses _ _ _ (search shape_of_state) (call_is_call_unchecked _ _ _ _ c.in_default.ensures (search unchecked_calls)) in
    record { order_after = t.0; number_and_values = t.1; passes = t.2; moves = t.3 }

pub returns-in-NamedFree : goal.returns-in-NamedFree
returns-in-NamedFree c =
    let t = call_state_clauses _ _ _ (search shape_of_state) (call_is_call_unchecked _ _ _ _ c.in_default.ensures (search unchecked_calls)) in
    record { order_after = t.0; number_and_values = t.1; passes = t.2; moves = t.3 }

pub returns-in-Drop : goal.returns-in-Drop
returns-in-Drop c =
    let t = call_state_clauses _ _ _ (search shape_of_state) (call_is_call_unchecked _ _ _ _ c.in_default.ensures (search unchecked_calls)) in
    record { order_after = t.0; number_and_values = t.1; passes = t.2; moves = t.3 }
