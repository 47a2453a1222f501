pub mod AnswerDefinitions
pub mod AnswerCases
pub mod AnswerLineLaws
pub mod AnswerLengthLaws
