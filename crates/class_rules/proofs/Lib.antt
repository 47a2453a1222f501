pub mod ClassCases
pub mod FirstAtLeastLaws
pub mod ClassTableLaws
pub mod ClassLaws
pub mod OffsetLaws
