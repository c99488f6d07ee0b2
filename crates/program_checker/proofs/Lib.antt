pub mod CommandRowLaws
pub mod KindLaws
pub mod ProgramVerdictLaws
