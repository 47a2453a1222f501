pub mod Ledger
pub mod Claim
pub mod TotalsClaim
pub mod NamesClaim
pub mod LongBlocksClaim
pub mod History
