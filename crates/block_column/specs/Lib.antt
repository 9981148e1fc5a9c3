-- Kinds: the kinds of slots, and their words.
-- KindTests: whether two kinds are one.
-- Counting: how many items of each kind some slots have.
pub mod Kinds
pub mod Counting
pub mod KindTests
pub mod Stores
pub mod Blocks
pub mod Tables
pub mod SlotRows
