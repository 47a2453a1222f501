pub mod WholeCallCases
pub mod NamedCallCases
pub mod LongCallCases
