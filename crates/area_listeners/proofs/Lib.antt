mod Between
mod Held
mod Kept
mod Levels
mod Meeting
mod Placed
pub mod Same
mod Steps
pub mod Told
mod Walks
