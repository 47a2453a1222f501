pub mod FinalLinesLaws
