pub mod NameDefinitions
pub mod NameCases
