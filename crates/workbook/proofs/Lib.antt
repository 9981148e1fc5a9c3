-- names that formulas use
pub mod NamesIn
-- sets of cells
pub mod Sets
-- tests of cells, and lists of cells that are gone over
pub mod Tests
-- the book after an edit
pub mod Steps
-- which formulas are stale after an edit
pub mod Staleness
-- what row edits leave
pub mod RowChanges
-- what edits of names leave
pub mod NameChanges
-- what formulas give by other names
pub mod EvalNames
-- what cells show that reach nothing that changed
pub mod Unreached
-- what formulas show that don't become stale
pub mod Fresh
-- what each edit leaves
pub mod Leavings
-- that every edit leaves the cells that it doesn't touch
pub mod EditsLeave
-- a workbook whose hub was made anew
pub mod Mended
-- what a recalculation takes and leaves
pub mod Recalculating
