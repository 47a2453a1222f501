pub mod RowRefusal
pub mod Tables
