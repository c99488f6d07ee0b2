pub mod CallLaws
pub mod CallMeaningLaws
pub mod AnsweredLaws
