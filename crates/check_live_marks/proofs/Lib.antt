pub mod MarksOfTableLaws
pub mod LiveBlocksLaws
