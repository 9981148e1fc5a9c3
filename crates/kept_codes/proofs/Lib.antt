-- RunRows: runs lie in their column. FormulaRows: the cells of groups and of rows with codes.
-- Going: a cell that stays goes to a cell.
-- RowsBetween, RefsBetween, FormsBetween: what keeps at two rows keeps between them.
-- Gathering: what is gathered one after the other. SidesGathered: rows that are gathered from both ends.
pub mod RunRows
pub mod FormulaRows
pub mod Going
pub mod RowsBetween
pub mod RefsBetween
pub mod FormsBetween
pub mod Gathering
pub mod SidesGathered
