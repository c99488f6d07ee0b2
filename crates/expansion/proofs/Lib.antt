pub mod EntryLaws
pub mod PiecesLaws
pub mod TurnsLaws
pub mod WalkLaws
pub mod SizingLaws
pub mod WritingLaws
