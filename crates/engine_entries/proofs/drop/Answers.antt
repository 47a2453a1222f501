-- `engine_entries::drop` meets its contract. Assumes nothing.
use Rattle.call_rules.specs.Calls.{call_of, call_with, most_moves}
use Rattle.engine_entries.proofs.drop.Goals as goal

pub returns : goal.returns
unfolding call_of call_with most_moves
returns c =
    let all = c.call_state.ensures in
    record { order_after = all.order_after; number_and_values = all.number_and_values; passes = all.passes; moves = all.moves }
