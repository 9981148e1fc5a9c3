-- Where what is shown stands.
-- Walking: the cells of an area and their order.
-- Spelling: what words spell, and that printed addresses read back.
-- References: references of formulas.
-- Moving: references of a formula that moves.
-- Shifting: references when rows are inserted and deleted.
-- Examples: worked examples.
pub mod Walking
pub mod Spelling
pub mod References
pub mod Moving
pub mod Shifting
mod Examples
