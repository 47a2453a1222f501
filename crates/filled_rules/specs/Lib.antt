pub mod FilledPlaces
