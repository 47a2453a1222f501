pub mod CommandDefinitions
pub mod CommandCases
