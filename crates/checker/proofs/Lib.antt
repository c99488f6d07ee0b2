pub mod HeaderLaws
pub mod VerdictLaws
pub mod AboveLaws
pub mod AnswerLaws
