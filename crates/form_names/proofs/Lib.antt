pub mod NamesInLaws
