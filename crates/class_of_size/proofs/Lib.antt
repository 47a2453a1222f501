pub mod RoundingLaws
pub mod SizeTableLaws
