-- Worked examples.
mod DecimalExamples
mod ReadingExamples
mod PrintingExamples
