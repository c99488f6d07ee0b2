pub mod JobLaws
pub mod AnswersLaws
pub mod RunBatchLaws
pub mod WrittenLaws
pub mod BatchMeaningLaws
