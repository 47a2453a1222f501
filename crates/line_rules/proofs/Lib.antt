pub mod LineDefinitions
pub mod LineCases
pub mod LineLaws
pub mod LineLengthLaws
