-- Splitting (the words of a text), TextCuts (cuts of a text are texts), Counts (words of digits), VerbTable (the table
-- of the code), and worked examples.
pub mod Splitting
pub mod TextCuts
mod Examples
pub mod VerbTable
pub mod Counts
mod EditExamples
mod WatchExamples
pub mod SmallBooks
