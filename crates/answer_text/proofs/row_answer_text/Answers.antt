-- The lines are put one after another from the buffer's start, and are in the buffer once the buffer is let go. Assumes nothing.
use Rattle.std.proofs.Common.{◌≡◌, take, rules}
use Rattle.text_writer.specs.Written.{written}
use Rattle.text_writer.proofs.WriteLaws.{in_a_row, let_go}
use Rattle.row_rules.specs.Row.{state_of}
use Rattle.answer_rules.specs.AnswerLines.{answer_text}
use Rattle.answer_text.proofs.row_answer_text.Goals as goal

pub returns : goal.returns
unfolding answer_text
returns c =
    let a = c.args.a in
    let put : c.put_text.new.self
    ≡ written c.new-text.result
    (answer_text a.answer.outcome (state_of a.answer.control (take c.args.n a.records)) c.args.before.now c.args.after.now) =
    search in_a_row depth 8 in
    search (rules, let_go)
