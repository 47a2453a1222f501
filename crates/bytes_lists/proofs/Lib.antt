pub mod FoursReadLaws
