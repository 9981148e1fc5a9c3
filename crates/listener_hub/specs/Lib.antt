-- Hits: which rows of registrations read a cell of an area.
-- Hubs: what the formula cells of a hub read.
-- Known: a hub, as contracts see it.
-- Moves: what becomes of cells and areas in row edits.
-- Parting: the parts of a run.
-- Reaching: rows that reach an area through others of their run.
pub mod Hits
pub mod Hubs
pub mod Known
pub mod Moves
pub mod Parting
pub mod Reaching
