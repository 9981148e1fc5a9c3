-- CsvRecords (what csv's reader has left), NoFault (records without a fault), FieldsLeft (the fields of a record),
-- AllRead (what was read in parallel), Counted (counts of fields and cells), ReadRows (rows of contents), TakenRecords
-- (one record more), and worked examples.
pub mod FieldsLeft
pub mod CsvRecords
pub mod AllRead
pub mod NoFault
pub mod Counted
pub mod ReadRows
pub mod TakenRecords
mod BookExamples
