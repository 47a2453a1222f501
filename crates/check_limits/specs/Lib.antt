pub mod SetupRefusal
