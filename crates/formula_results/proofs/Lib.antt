-- rows that hold nothing
mod EmptyRows
-- a run of a column that got other values
mod RunResults
-- stored values by cell
mod StoredValues
