pub mod ConvertLaws
pub mod ConversionMeaningLaws
pub mod WritingLaws
pub mod AnsweredLaws
