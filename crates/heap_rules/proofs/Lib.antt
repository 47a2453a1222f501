pub mod CaseStates
pub mod TableCases
pub mod TotalsCases
pub mod TotalsCountedCases
pub mod RankCases
pub mod RunCases
pub mod RunAtCases
