-- What is read as a formula is spelled so, within the limits.
pub mod Leaves
pub mod Primaries
pub mod Levels
pub mod Formulas
