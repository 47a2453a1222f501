-- The text is put from the buffer's start, and is in the buffer once the buffer is let go. Assumes nothing.
use Rattle.std.proofs.Common.{◌≡◌, rules}
use Rattle.text_writer.specs.Written.{written}
use Rattle.text_writer.proofs.WriteLaws.{let_go}
use Rattle.answer_rules.specs.AnswerLines.{bad_input_text}
use Rattle.answer_text.proofs.bad_input_text.Goals as goal

pub returns : goal.returns
unfolding bad_input_text
returns c =
    let put : c.put_text.new.self ≡ written c.new-text.result bad_input_text = search rules in
    search (rules, let_go)
