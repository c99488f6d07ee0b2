pub mod AtomSubstitutionLaws
pub mod RangedLaws
pub mod SubstituteAtLaws
pub mod ClosedLaws
pub mod PathLaws
