pub mod Args
pub mod Words
