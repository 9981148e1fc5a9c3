-- Summing: sums and means by what is kept of a list. Selecting: sums of picked numbers. Multiplying: extremes and
-- products.
pub mod Multiplying
pub mod Summing
pub mod Selecting
