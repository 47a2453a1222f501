-- `heap_table::replace` meets its contract. Assumes nothing.
use Rattle.heap_table.proofs.ReplacedLaws.{superblocks_left_le_64, live_left_le_16384, replaced_with_totals}
use Rattle.heap_table.proofs.replace.Goals as goal

pub count_in-s-requires : goal.count_in-s-requires
count_in-s-requires c = (search superblocks_left_le_64, search live_left_le_16384)

pub returns : goal.returns
returns c = search replaced_with_totals
