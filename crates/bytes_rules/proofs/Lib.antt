pub mod LittleEndianCases
pub mod PastEndLaws
pub mod FoursLaws
