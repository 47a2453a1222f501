pub mod TextCases
pub mod PasteLaws
pub mod DigitLaws
