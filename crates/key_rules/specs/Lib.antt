pub mod Key
pub mod KeyClaim
