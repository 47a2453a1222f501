pub mod CommandStepLaws
pub mod ReplayLoopLaws
