-- Chains: runs of which each row reads the one above it, or the one below it.
-- Limits: how far the rows of a run go that stay on one side of a border.
-- RowEdits: what becomes of cells and of what they read when rows of a sheet are inserted or deleted.
-- RunAreas: the areas that the rows of a run read, and which of them meet an area.
pub mod Chains
pub mod Limits
pub mod RowEdits
pub mod RunAreas
