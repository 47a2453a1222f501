-- `engine_entries::take` meets its contract. Assumes nothing.
use Rattle.call_rules.specs.Calls.{call_of, call_with}
use Rattle.engine_entries.proofs.take.Goals as goal

pub returns : goal.returns
unfolding call_of call_with
returns c =
    let all = c.call_state.ensures in
    record { order_after = all.order_after; number_and_values = all.number_and_values; passes = all.passes }
