-- `call_free::free` meets its contract. Assumes nothing.
use mathlib.Core.Path.{◌∙◌}
use Rattle.heap_laws.proofs.ShapeLaws.{shape_of_state}
use Rattle.call_outcomes.proofs.CallTestLaws.{refused_by_test, passed_by_test, call_clauses}
use Rattle.call_free.proofs.FreeUncheckedLaws.{free_unchecked_by_test, freed_superblock}
use Rattle.call_free.proofs.free.Goals as goal

pub returns-in-Err : goal.returns-in-Err
returns-in-Err c =
    let t = call_clauses _ (refused_by_test _ _ _ _ _ _ _ c.in-Err.ensures c.number.ensures c.refuse.ensures.value ∙ free_unchecked_by_test _ _ _ _) in
    record { order_after = t.0; number_and_values = t.1 }

pub free_at-requires : goal.free_at-requires
free_at-requires c = freed_superblock _ _ _ _ c.requires c.in-Ok.ensures (search shape_of_state)

pub returns-in-Ok : goal.returns-in-Ok
returns-in-Ok c =
    let t = call_clauses _ (passed_by_test _ _ _ _ _ c.in-Ok.ensures c.free_at.ensures ∙ free_unchecked_by_test _ _ _ _) in
    record { order_after = t.0; number_and_values = t.1 }
