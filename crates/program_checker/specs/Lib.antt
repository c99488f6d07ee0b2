pub mod BlockVerdict
pub mod OpensCommand
