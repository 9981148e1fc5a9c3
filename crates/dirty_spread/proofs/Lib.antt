-- Beside: which cells are in a list.
-- Cells: the cells of runs, as a list and as a test.
-- Closings: levels of cells that are in no wave.
-- Dones: when cells are done.
-- Endings: what levels say of waves in the end.
-- Found: cells at places of a list in order.
-- Fronts: marks of the first rows of a run.
-- Leveled: lists of cells by their levels, one place more.
-- Listing: the places of a run's cells in a list in order.
-- Looks: areas looked at, one more.
-- Orders: levels of stale cells, one step more.
-- Passed: circular cells of an area, one more.
-- Reading: which cells are formula cells, and which are stale, by what they read.
-- RowLevels: rows of parts that get their waves.
-- Scans: levels of the cells of an area, one cell more.
-- SpreadExamples: worked examples of stale cells.
-- Spreads: what a search of stale cells has found.
-- StaleLaws: which cells of a book are stale, by what its formulas read.
-- Stepping: marks one after the other.
-- Sweeps: one run more of those whose cells stand in a list.
-- WaveExamples: worked examples of waves.
pub mod Beside
pub mod Cells
pub mod Closings
pub mod Dones
pub mod Endings
pub mod Found
pub mod Fronts
pub mod Leveled
pub mod Listing
pub mod Looks
pub mod Orders
pub mod Passed
pub mod Reading
pub mod RowLevels
pub mod Scans
mod SpreadExamples
pub mod Spreads
pub mod StaleLaws
pub mod Stepping
pub mod Sweeps
mod WaveExamples
