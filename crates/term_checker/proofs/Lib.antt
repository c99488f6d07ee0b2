pub mod WalkLaws
pub mod TermWalkLaws
pub mod TermVerdictLaws
pub mod TermOpensLaws
pub mod Laws
