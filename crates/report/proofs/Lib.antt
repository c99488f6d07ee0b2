pub mod InputLaws
pub mod InputRowsLaws
pub mod LineLaws
