-- Columns: what is left of an area behind some rows of a column. Cutting: a piece from the front of what is left.
-- Counting: how many values pass a test. FirstErrors: all of a list of results, or the first
-- error. Tallying: numbers that are taken one after the other. Stepping: pieces of two
-- areas in step. Picking: values that are picked by others.
pub mod Columns
pub mod Cutting
pub mod Counting
pub mod FirstErrors
pub mod Tallying
pub mod Stepping
pub mod Picking
