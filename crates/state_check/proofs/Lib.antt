pub mod ClassLaws
pub mod PlaceLaws
pub mod EntryLaws
pub mod WalkLaws
pub mod CountsLaws
