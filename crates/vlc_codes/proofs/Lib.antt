pub mod CellLaws
pub mod CoefficientLaws
pub mod Computed
pub mod FoundRows
pub mod WordLaws
