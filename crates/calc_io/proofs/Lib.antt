-- KnownBytes (what is read and written in pieces), Rooms (of sinks), Counting (of faults), Telling and Finding (of
-- books), and worked Examples.
pub mod KnownBytes
pub mod Counting
pub mod Rooms
pub mod Telling
mod Finding
mod Examples
