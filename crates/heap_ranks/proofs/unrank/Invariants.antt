-- `heap_ranks::unrank` meets its contract. The loop's invariant: of the superblocks passed those behind superblock k went one ahead, the rest is as
-- it was. Assumes nothing.
use Rattle.heap_ranks.proofs.RankingLaws.{RankedBelow, shifted_ahead, with_table}
use Rattle.heap_ranks.proofs.unrank.Given as goal

abbrev pub invariant-loop-b : goal.invariant-loop-b
invariant-loop-b l = RankedBelow (shifted_ahead l.k l.fn.s) l.fn.s (with_table l.fn.s l.b-items) l.b-index
