-- Examples: what the definitions give at small lists and at the ends of 64 bits.
-- Halves: a number of 64 bits is its two halves. Extremes: the least and the greatest item.
-- Written: a slice whose every lane is written. Sliding: a window with one more item, and without its first.
-- Crossings: which lane is the first whose exact result leaves 64 bits.
pub mod Examples
pub mod Halves
pub mod Extremes
pub mod Written
pub mod Sliding
pub mod Crossings
