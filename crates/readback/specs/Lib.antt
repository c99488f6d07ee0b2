pub mod CommandSize
pub mod OpenRecords
