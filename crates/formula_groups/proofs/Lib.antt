-- Kept: a table of groups that is the groups of a column.
pub mod Kept
