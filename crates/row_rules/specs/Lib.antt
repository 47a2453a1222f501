pub mod Row
pub mod RowClaim
pub mod LoadStore
pub mod Borrowed
