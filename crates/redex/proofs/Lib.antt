pub mod LevelsLaws
pub mod LookLaws
pub mod PlanMeaningLaws
pub mod RuleLaws
