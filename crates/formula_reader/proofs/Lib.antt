-- Steps, Turns, Unquoting: what the code's loops keep. TreeCounts: the tokens, parentheses and parameters of a tree.
-- Corners: references that are read from the left.
-- Complete: what is spelled is read. Sound: what is read is spelled. Formed: what is spelled is well formed.
-- Meaning and OneMeaning: the one meaning of fields, for the crates above. Examples: worked ones.
pub mod Steps
pub mod Turns
pub mod Unquoting
pub mod TreeCounts
pub mod Identifiers
pub mod Complete
pub mod Sound
pub mod Corners
pub mod Formed
pub mod Meaning
pub mod OneMeaning
mod Examples
