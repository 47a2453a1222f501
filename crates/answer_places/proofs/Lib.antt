pub mod PlaceLinesLaws
