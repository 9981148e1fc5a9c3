-- The cells of an area and their order.
-- Order: the order of cells.
-- Places: the list of an area's cells, and which areas cover others.
-- Walks: a walk over cells or rows goes on by its first.
pub mod Order
pub mod Places
pub mod Walks
