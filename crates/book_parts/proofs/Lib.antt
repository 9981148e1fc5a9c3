-- looking a key up
pub mod Lookups
-- books of cells without names
pub mod Contents
-- whether there is room for a content
mod Lengths
-- one item after the other
mod Steps
pub mod Inserted
-- rows that are filled
mod Filled
pub mod Copied
-- an area's contents cell by cell, and what is copied as a piece
mod HeldCells
mod Onward
mod Alike
-- what an edit leaves in the cells that it doesn't touch
pub mod LeftCells
-- cells that are pushed out of the sheet
mod PushedOut
-- the generated book
mod ColumnEntries
