pub mod FormCases
pub mod FromFnLaws
