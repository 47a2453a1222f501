pub mod RunLinesLaws
