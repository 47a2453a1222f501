pub mod RunStepLaws
