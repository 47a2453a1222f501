-- `check_ranks::ranks_valid` meets its contract. The loop's invariant: of the superblocks passed no two have one rank, each rank is marked, the
-- ranked ones are counted, and the highest rank is known. Assumes nothing.
use Rattle.check_ranks.proofs.RankScanLaws.{RanksMet}
use Rattle.check_ranks.proofs.ranks_valid.Given as goal

abbrev pub invariant-loop-b : goal.invariant-loop-b
invariant-loop-b l = RanksMet l.fn.s l.met l.ranked l.highest l.b-index
