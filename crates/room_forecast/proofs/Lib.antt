pub mod WeightsLaws
pub mod PartsLaws
pub mod SplitLaws
pub mod WalkedLaws
pub mod RowLaws
