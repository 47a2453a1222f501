pub mod FreesLaws
pub mod TouchedArrayLaws
pub mod RestoreLaws
pub mod FreesSafeLaws
pub mod DropUncheckedLaws
