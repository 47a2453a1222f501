pub mod AnswerLines
