pub mod EmptinessInvariantLaws
pub mod AllBelowLaws
