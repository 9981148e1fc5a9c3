-- GroupCells: the cells of a run that a group has.
-- Held: what a hub holds of a book.
-- Renamed: names that stand for what they did, but for one.
pub mod GroupCells
pub mod Held
pub mod Renamed
