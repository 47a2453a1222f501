-- `answer_superblocks::superblock_lines` meets its contract. The loop's invariant: the lines of the records passed are put. Assumes nothing.
use Rattle.std.proofs.Common.{◌≡◌}
use Rattle.text_writer.specs.Written.{written}
use Rattle.answer_superblocks.proofs.SuperblockLinesLaws.{lines_of_first}
use Rattle.answer_superblocks.proofs.superblock_lines.Given as goal

abbrev pub invariant-loop-k : goal.invariant-loop-k
invariant-loop-k l = l.text ≡ written l.fn.text (lines_of_first l.b-items l.k)
