pub mod FreeStepLaws
