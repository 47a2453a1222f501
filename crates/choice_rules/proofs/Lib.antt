pub mod ChoiceCases
pub mod RunChoiceCases
