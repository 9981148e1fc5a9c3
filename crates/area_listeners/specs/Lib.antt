-- Pairs: pairs of an area and an id, and which of them have cells of an area.
-- Spots: where pairs stand, by the size and the place of their area.
pub mod Pairs
pub mod Spots
