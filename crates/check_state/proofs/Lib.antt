pub mod RestValidLaws
pub mod FirstRefusalLaws
