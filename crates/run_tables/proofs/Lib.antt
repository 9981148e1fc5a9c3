-- RunLists: runs of joined, cut and moved rows.
-- SplicedRuns: the runs after an edit, from the runs before it.
-- Places: the run at a place of a table.
-- Tables: an edit of a table of pieces.
-- Entries: the rows that runs give back.
-- Found: the run that has a row.
-- RowEdits: edits of rows in two steps.
pub mod RunLists
pub mod SplicedRuns
pub mod Places
pub mod Tables
pub mod Entries
pub mod Found
pub mod RowEdits
