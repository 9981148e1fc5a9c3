pub mod Operands
pub mod Machine
pub mod Runs
