-- Columns: the cells of numbered columns.
-- FormulaCells: the cells that hold formulas, by the groups of their columns.
-- RowChanges: where cells go with a change of rows.
-- Gathered: the formulas that don't keep their codes.
pub mod Columns
pub mod FormulaCells
pub mod RowChanges
pub mod Gathered
