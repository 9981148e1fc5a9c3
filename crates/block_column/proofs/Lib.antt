-- AtRows: the block of a row.
-- Columns: a whole column after an edit.
-- Filtered: what a filter keeps of rows that hold one slot.
-- Items: the items of one kind in a column.
-- Kept: a table of a column, before an edit and after it.
-- Laid: blocks that lie on the rows of a column.
-- Recounts: the items in front of each block, counted anew.
-- Rooms: room for edits of single rows.
-- Tallies: how many items lie in front of a row.
-- Woven: slots from their kinds and items.
pub mod AtRows
pub mod Columns
pub mod Filtered
pub mod Items
pub mod Kept
pub mod Laid
pub mod Recounts
pub mod Rooms
pub mod Tallies
pub mod Woven
