-- The numbers passed are put. Assumes nothing.
use Rattle.std.proofs.Common.{◌≡◌, ◌++◌}
use Rattle.text_rules.specs.Text.{letters}
use Rattle.text_writer.specs.Written.{written}
use Rattle.answer_superblocks.proofs.SuperblockLinesLaws.{first_numbers}
use Rattle.answer_superblocks.proofs.put_marks.Given as goal

abbrev pub invariant-loop-number : goal.invariant-loop-number
invariant-loop-number l = l.text ≡ written l.fn.text (letters " live" ++ first_numbers l.fn.live l.number-index)
