pub mod HeadLaws
pub mod SplitLaws
