pub mod KeyClaimCases
pub mod KeyCases
