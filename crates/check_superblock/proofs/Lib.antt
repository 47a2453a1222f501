pub mod AloneValidLaws
pub mod AllBelowLaws
