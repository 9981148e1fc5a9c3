-- Numbering: values by their number among parameters and in areas. Lining: the first column and row of an area.
-- Searching: what a scan finds. Running: what a scan makes of a run of numbers, and of values of another kind.
-- Finding: a search that goes along a line a piece at a time.
pub mod Numbering
pub mod Lining
pub mod Searching
pub mod Running
pub mod Finding
