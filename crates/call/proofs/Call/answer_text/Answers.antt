-- `call::Call::answer_text`: the text lies in the buffer. Assumes nothing.
use Rattle.answer_text.proofs.AnswerTextLaws.{text_counted}
use Rattle.call.proofs.Call.answer_text.Goals as goal

pub returns-in-None : goal.returns-in-None
returns-in-None c = text_counted _ _ c.state_answer_text.ensures

pub returns-in-Some : goal.returns-in-Some
returns-in-Some c = text_counted _ _ c.row_answer_text.ensures
