pub mod SameRuns
pub mod SameEnds
pub mod SameBatch
