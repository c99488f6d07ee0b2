pub mod LittleEndian
pub mod Slice
