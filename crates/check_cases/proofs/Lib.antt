pub mod WholeCheckCases
