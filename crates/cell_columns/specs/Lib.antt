-- Cells: the columns of sixteen sheets as the cells of a book.
-- Uses: how many cells have each code.
-- Sheets: columns and codes that are those of a book.
-- Lent: what the columns and the groups are seen as.
-- Taken: how the uses of codes change.
-- Freed: the formulas of neighbouring rows by the groups of their column.
-- Emptied: cells without those of some rows in neighbouring columns.
-- Filled: contents that are put into neighbouring rows.
-- Looks: what is lent of a cell's content.
-- Walks: the rows of a column that hold something, and the cells that they are.
-- ColumnRuns: the groups and the blocks of a column, as the cells alone have them.
-- Shifted: where cells go with a change of rows.
-- Reset: cells that are emptied, and cells that are set.
pub mod Cells
pub mod Uses
pub mod Sheets
pub mod Lent
pub mod Taken
pub mod Freed
pub mod Emptied
pub mod Filled
pub mod Looks
pub mod Walks
pub mod ColumnRuns
pub mod Shifted
pub mod Reset
