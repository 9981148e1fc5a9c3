-- Places: where the first byte that passes a test stands. FirstLines: the first line of a text.
-- Fronts: the bytes in front that pass a test.
pub mod Places
pub mod FirstLines
pub mod Fronts
