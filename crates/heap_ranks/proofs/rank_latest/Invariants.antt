-- `heap_ranks::rank_latest` meets its contract. The loop's invariant: of the superblocks passed those ahead of superblock k went one back, the rest is
-- as it was. Assumes nothing.
use Rattle.heap_ranks.proofs.RankingLaws.{RankedBelow, shifted_back, with_table}
use Rattle.heap_ranks.proofs.rank_latest.Given as goal

abbrev pub invariant-loop-b : goal.invariant-loop-b
invariant-loop-b l = RankedBelow (shifted_back l.k l.fn.s) l.fn.s (with_table l.fn.s l.b-items) l.b-index
