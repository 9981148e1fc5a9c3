pub mod BookCells
pub mod Causes
pub mod Growing
pub mod Loads
pub mod Placed
pub mod CsvLaw
