-- A printed tree spells itself: PrintedPieces and PrintedOperands (tokens), PrintedTrees and SpelledTrees (levels),
-- Quotes (texts). The code: Growing and Joining (what is appended). Worked Examples.
mod Examples
pub mod Growing
pub mod Joining
pub mod PrintedOperands
pub mod PrintedPieces
pub mod PrintedTrees
pub mod Quotes
pub mod SpelledTrees
