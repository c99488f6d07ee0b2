pub mod RanLaws
pub mod TallyLaws
pub mod RepresentsLaws
pub mod GoingLaws
pub mod MinusOneLaws
