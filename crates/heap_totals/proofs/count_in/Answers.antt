-- `heap_totals::count_in` meets its contract. Assumes nothing.
use Rattle.heap_totals.proofs.OneSuperblockLaws.{counted_in_of_index, counted_in_of_no_index}
use Rattle.heap_totals.proofs.count_in.Goals as goal

pub returns-in-Some : goal.returns-in-Some
returns-in-Some c = search (counted_in_of_index c.args.b _ c.in-Some.ensures.value)

pub returns-in_default : goal.returns-in_default
returns-in_default c = counted_in_of_no_index c.args.b c.args.t c.in_default.ensures.value
