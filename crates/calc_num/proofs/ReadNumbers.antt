-- How digits make a size, and which texts are numbers.
-- Scale: a size while its digits come in, and powers of ten.
-- Sizes: the size that digits round a point come to.
-- Readings: a size with its sign is the reading.
-- InRange: what is read is in range.
pub mod Scale
pub mod Sizes
pub mod Readings
pub mod InRange
