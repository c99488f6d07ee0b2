pub mod ValuesLaws
pub mod NumeralsLaws
