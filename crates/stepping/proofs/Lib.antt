pub mod PlanLaws
pub mod StateLaws
pub mod PerformLaws
