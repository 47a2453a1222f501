pub mod OtherPlacesLaws
pub mod TakeUncheckedLaws
