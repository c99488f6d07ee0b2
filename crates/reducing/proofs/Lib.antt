pub mod StateLaws
pub mod PlanLaws
pub mod EditedLaws
pub mod PerformLaws
