pub mod RecordAt
pub mod TermVerdict
