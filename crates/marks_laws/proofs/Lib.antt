pub mod BitLaws
pub mod MarkLaws
pub mod NoMarkFromLaws
