pub mod FilledPlacesCases
pub mod OccurrenceLaws
pub mod SeenMarksLaws
pub mod PlacesCheckLaws
pub mod PlacesValidLaws
pub mod OwnPlacesOnly
pub mod StorageLengthLaws
