pub mod Kinds
pub mod Pieces
pub mod Lent
pub mod Tallies
pub mod Counts
pub mod Pairs
pub mod Picks
