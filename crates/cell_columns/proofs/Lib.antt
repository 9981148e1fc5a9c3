-- Orders: the cells of columns stand in the order of cells.
-- Found: a cell is found in its column.
-- Edited: columns and codes stay those of a book.
-- PutSlot: a slot that is put into a cell. Contents: what cells hold after one is set.
-- Counted: how many cells columns have. SetCell: a cell that is set.
-- Uses: the uses of codes as slots come and go. Groups: the groups of columns.
-- Maps: lists of columns by what they are seen as.
-- Same: codes that are the same. Setting: columns, codes and groups in which a cell is set.
-- Nothing: columns that are empty.
-- PutRows: slots that are put into neighbouring rows of a column.
-- SetRows: neighbouring rows of a column that are set.
-- Freeing: the uses of codes that go with groups.
-- Among: how many of some rows have a code.
-- EmptyRows: rows of a column that are emptied.
-- Rooms: columns that are emptied one after the other.
-- Clearing: a column that is emptied between two rows, with its groups and codes.
-- Repeating: copies of a slot in neighbouring rows. FilledCells, FilledRows, ColumnFilled, FilledAlike: what cells hold with them.
-- Walks: the cells of some rows of columns. Filled: rows that hold something.
-- CountsMore: cells of an area that are counted and listed.
-- FormulaPlaces: the cells with codes are those that hold formulas.
-- Looked: what is lent of a cell's content.
-- Listed: cells that are listed with what they hold.
-- Told: the cells of columns are those of a book, which slots decide.
-- Restored: cells that are emptied and set again. SetShifted: cells that are set after a change of rows.
-- RowsChanged: the formulas that don't keep their codes. RowsKept: cells that stay in their sheet.
-- FormRuns: runs of codes are runs of forms. Downwards: the rows of a column and its cells.
pub mod Orders
pub mod Found
pub mod Edited
pub mod Told
pub mod PutSlot
pub mod Contents
pub mod Counted
pub mod SetCell
pub mod Groups
pub mod Uses
pub mod Maps
pub mod Same
pub mod Setting
pub mod Nothing
pub mod PutRows
pub mod SetRows
pub mod Freeing
pub mod Among
pub mod EmptyRows
pub mod Rooms
pub mod Clearing
pub mod Repeating
pub mod FilledCells
pub mod FilledRows
pub mod ColumnFilled
pub mod FilledAlike
pub mod Walks
pub mod Filled
pub mod CountsMore
pub mod FormulaPlaces
pub mod Looked
pub mod Listed
pub mod FormRuns
pub mod CodedCells
pub mod ColumnSlots
pub mod Downwards
pub mod RowParts
pub mod RowsMoved
pub mod SheetShifted
pub mod ColumnShifted
pub mod BookShifted
pub mod ColumnsMoved
pub mod Visited
pub mod Restored
pub mod RowsChanged
pub mod SetShifted
pub mod RowsKept
