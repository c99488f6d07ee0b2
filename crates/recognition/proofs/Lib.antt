pub mod ScanLaws
pub mod RecognitionLaws
pub mod AllLaws
pub mod TermsLaws
