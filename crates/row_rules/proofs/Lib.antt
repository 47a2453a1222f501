pub mod RowCases
pub mod LoadStoreCases
pub mod RecordsAfterCases
pub mod RowClaimCases
