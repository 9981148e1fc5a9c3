-- the lines of one report more
pub mod Lines
-- watchers that are told one after the other
pub mod Telling
-- values that the test takes for one
pub mod SameValues
mod ReportExamples
