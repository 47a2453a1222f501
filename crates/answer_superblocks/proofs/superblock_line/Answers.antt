-- The fields one after another. Assumes nothing.
use Rattle.text_writer.proofs.WriteLaws.{in_a_row}
use Rattle.answer_rules.specs.AnswerLines.{superblock_line}
use Rattle.answer_superblocks.proofs.superblock_line.Goals as goal

pub returns : goal.returns
unfolding superblock_line
returns c = search in_a_row
