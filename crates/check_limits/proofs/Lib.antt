pub mod SetupFaultLaws
pub mod SetupRefusalLaws
pub mod WithinLimitsLaws
