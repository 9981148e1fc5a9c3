pub mod Records
pub mod ColumnLines
pub mod Output
pub mod Ending
pub mod Runs
pub mod Messages
pub mod Sessions
pub mod Inputs
