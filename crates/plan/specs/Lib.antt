pub mod Plan
pub mod RuleOf
