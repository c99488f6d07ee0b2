pub mod DecimalLaws
pub mod PrintLaws
