-- Every text that spells a formula within the limits is read as that formula.
pub mod References
pub mod Leaves
pub mod Beginnings
pub mod Primaries
pub mod Levels
pub mod Formulas
