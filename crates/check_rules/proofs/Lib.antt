pub mod CheckDefinitions
pub mod CheckCases
pub mod ClauseLaws
pub mod RunCheckCases
pub mod TableCheckCases
