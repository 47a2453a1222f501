pub mod WriteLaws
pub mod DigitCounts
