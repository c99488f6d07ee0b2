pub mod RuleNumber
pub mod Weigh
pub mod WeighMeaning
