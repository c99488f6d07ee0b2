pub mod CommandLaws
pub mod OpenRecordsLaws
pub mod PieceLaws
pub mod RowLaws
pub mod WriteLaws
