pub mod MoveCases
