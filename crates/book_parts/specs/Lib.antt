pub mod GeneratedColumns
pub mod Pieces
pub mod Runs
