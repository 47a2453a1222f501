-- `call::reply_bad_input` is safe and ends: the text lies in the buffer. Assumes nothing.
use Rattle.answer_text.proofs.AnswerTextLaws.{text_counted}
use Rattle.call.proofs.reply_bad_input.Goals as goal

pub write-requires : goal.write-requires
write-requires c = text_counted _ _ c.bad_input_text-end.ensures
