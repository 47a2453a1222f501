pub mod Refusals
pub mod RefusalNumbers
