pub mod Faults
pub mod Desk
pub mod Sink
pub mod Shelf
pub mod Memory
pub mod Edge
