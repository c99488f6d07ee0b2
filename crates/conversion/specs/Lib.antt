pub mod Convert
pub mod ConversionMeaning
pub mod Converting
