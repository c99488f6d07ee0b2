pub mod CheckLaws
pub mod RunLaws
pub mod ExpandLaws
