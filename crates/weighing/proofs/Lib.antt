pub mod WeighLaws
pub mod FillLaws
