pub mod Entry
pub mod Pieces
pub mod Walk
pub mod Sizing
pub mod Writing
