pub mod RecordCases
pub mod DropKeyCases
pub mod LongRecordCases
