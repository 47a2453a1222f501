pub mod MarkCases
