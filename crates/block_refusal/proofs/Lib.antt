pub mod AddressTestLaws
pub mod RefusalLaws
