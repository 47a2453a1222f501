pub mod StateInLaws
