pub mod RowRefusalLaws
