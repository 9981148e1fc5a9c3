-- Rows: edits of the rows of a column, as lists.
-- Runs: the maximal runs of a column's rows.
-- Edges: places of a table of runs.
pub mod Rows
pub mod Runs
pub mod Edges
