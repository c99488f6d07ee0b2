pub mod RowTranslationLaws
pub mod TranslationHeadsLaws
pub mod TupleLaws
pub mod RowViewLaws
pub mod RowScanLaws
pub mod TaskLaws
pub mod ProgramTaskLaws
