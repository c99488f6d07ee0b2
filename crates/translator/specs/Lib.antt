pub mod RowTranslation
pub mod TranslationHeads
pub mod TranslationTasks
pub mod RowScan
