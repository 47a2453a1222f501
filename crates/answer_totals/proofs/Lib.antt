pub mod TotalLinesLaws
