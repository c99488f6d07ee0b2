pub mod HeldLaws
pub mod RowsLaws
