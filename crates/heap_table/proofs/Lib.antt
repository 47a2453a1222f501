pub mod PastTableLaws
pub mod ReplacedLaws
