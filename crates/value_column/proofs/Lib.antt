-- Cleared: rows of a lane that are made plain.
-- Columns: cells of an area by their columns.
-- Copied: rows that show copied numbers.
-- LeftRows: the rows that are left behind a span.
-- Opened: lanes with rows put in.
-- Shown: what cells show, by their columns.
-- Spare: room for all rows.
-- Starts: rows that come behind a cell.
-- Tabs: a column as a list.
-- Unmoved: columns that show what they did.
-- Written: one more row written.
pub mod Cleared
pub mod Columns
pub mod Copied
pub mod LeftRows
pub mod Opened
pub mod Shown
pub mod Spare
pub mod Starts
pub mod Tabs
pub mod Unmoved
-- columns that were never used
mod Unused
pub mod Written
