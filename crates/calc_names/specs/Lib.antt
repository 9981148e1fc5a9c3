pub mod NameFaults
pub mod LookUps
pub mod Kept
