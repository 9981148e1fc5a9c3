-- Numbers: cells by their numbers.
-- Indexed: runs with the places of their first cells.
-- PartLists: lists of cells that are kept as runs.
-- Places: what stands at a place of a list of runs.
pub mod Numbers
pub mod Indexed
pub mod Places
pub mod PartLists
