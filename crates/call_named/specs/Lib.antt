pub mod NamedRefusals
