pub mod OrderLaws
pub mod FirstPlaces
