-- `put` of u64 meets its contract: the digits before the last one are put by the call of itself with a smaller number, the measure. Assumes nothing.
use Rattle.text_writer.proofs.U64Decimal.+put.Given as goal

abbrev pub decreases-put : goal.decreases-put
decreases-put l = l.self
