pub mod Changes
pub mod Joins
pub mod Linked
pub mod Parts
pub mod Places
pub mod Standing
pub mod Trimming
pub mod Trims
