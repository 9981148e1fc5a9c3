pub mod Counts
pub mod BoardMachine
pub mod Views
pub mod Laws
pub mod Passes
pub mod Rules
