pub mod SuperblockLinesLaws
