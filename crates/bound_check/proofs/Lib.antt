pub mod PassLaws
pub mod HeadLaws
pub mod MarkLaws
