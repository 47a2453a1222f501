pub mod NameLinesLaws
