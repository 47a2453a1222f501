pub mod RefusalTable
pub mod CommandLaws
pub mod RefusalOffsets
