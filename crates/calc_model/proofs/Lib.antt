-- Trees: TreeFolds, TreeInduction, Replaced (other trees in place of references), GrammarLevels. Areas and places:
-- Areas, Places. PrintedAscii: numbers print in ASCII.
-- What cells show: EvalSame (a formula depends on what it reads), Rounds, Shown, Pigeonhole (rounds that come to an
-- end), Knowing, Readiness (results found in any order), FunctionNames (finding a function by its name).
-- Edits: BooksKept (a book stays one), EntriesKept, CapitalText, CapitalNames, NamesKept (so do its names), GeneratedKept
-- (and the generated one is one), EntriesFound, NamedReads (what names leave unread), Reached (which cells reach which). Worked examples: the files that end so.
pub mod TreeFolds
pub mod TreeInduction
pub mod Replaced
pub mod FormedShifts
pub mod Areas
pub mod EvalSame
pub mod FunctionNames
pub mod Rounds
pub mod Shown
pub mod PrintedAscii
pub mod Knowing
pub mod Places
pub mod Pigeonhole
pub mod Readiness
mod ShownExamples
mod StepExamples
mod EditExamples
mod TouchedExamples
mod StaleExamples
mod OperatorExamples
mod FunctionExamples
mod GeneratedExamples
pub mod Reached
pub mod GeneratedKept
pub mod BooksKept
pub mod GrammarLevels
pub mod EntriesKept
pub mod EntriesMoved
pub mod RowsKept
pub mod ShiftedReads
pub mod CapitalText
pub mod CapitalNames
pub mod NamesKept
pub mod EntriesFound
pub mod NamedReads
