-- ByParts: rows of parts of runs, by their places among the stale cells.
-- Finding: places of cells in a list in order.
-- LevelLists: lists of stale cells by their levels.
-- Levels: levels of stale cells while their waves are found.
-- Marking: marks of formula cells, and runs of those that were marked.
-- Spreading: which formula cells are stale once areas were touched.
-- Sweeping: the cells of sorted runs, each once.
-- Waves: in which order stale formulas are calculated.
pub mod ByParts
pub mod Finding
pub mod LevelLists
pub mod Levels
pub mod Marking
pub mod Spreading
pub mod Sweeping
pub mod Waves
