pub mod Touched
pub mod Readers
pub mod Workbook
