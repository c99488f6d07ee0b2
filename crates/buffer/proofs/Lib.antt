pub mod LittleEndianLaws
pub mod SliceLaws
pub mod StoresLaws
pub mod StdLaws
