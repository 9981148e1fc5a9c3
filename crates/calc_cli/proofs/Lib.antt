-- Inputs: TakenBytes (how much is taken), Ended (to which end they lead).
-- Output: Loaded (the first session), Progress (what is written so far), Pieces (piece by piece), Joining (records).
pub mod Joining
pub mod ColumnNumbers
pub mod Loaded
pub mod Ended
pub mod FewLines
pub mod TakenBytes
pub mod Pieces
pub mod Progress
-- the session after an edit and after `watch`
mod SessionSteps
