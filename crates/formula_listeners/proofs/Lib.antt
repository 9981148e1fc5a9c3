-- EarsLie: the ears of a run's first formula lie in the sheet, for all its rows. InRuns: the cells of runs.
-- GroupWalks: a walk over the groups of a column. AreaCells: the cells of an area. ColumnCodes: the codes of
-- one of all columns.
-- BookReads: what the formulas of a book read, by their codes.
-- MovedTrees, MovedBooks, MovedRows: what formulas read after rows went. Unchanged: edits that leave what they read.
-- NameUsers, RenewedRows: formulas that don't use a name read what they did. WholeBooks: a hub of all formulas of a book.
pub mod EarsLie
pub mod InRuns
pub mod SingleReads
pub mod GroupWalks
pub mod AreaCells
pub mod ColumnCodes
pub mod BookReads
pub mod MovedTrees
pub mod MovedBooks
pub mod MovedRows
pub mod Unchanged
pub mod WholeBooks
pub mod NameUsers
pub mod RenewedRows
