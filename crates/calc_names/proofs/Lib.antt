-- entries in the order of their keys
pub mod Sorted
-- entries under a change of their values
pub mod Valued
-- what a search finds
pub mod Searched
-- values that are changed one after the other
pub mod Changed
-- the entries as they are seen
pub mod Seen
-- the entries under edits
pub mod Edited
