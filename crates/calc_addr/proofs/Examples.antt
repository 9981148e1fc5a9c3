-- Worked examples.
mod SpellingExamples
mod ShiftExamples
