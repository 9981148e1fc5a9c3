-- GroupRows: what a column is seen as.
-- Groups: the groups of a column.
pub mod GroupRows
pub mod Groups
