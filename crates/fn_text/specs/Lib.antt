pub mod Splits
pub mod Joined
pub mod Finding
