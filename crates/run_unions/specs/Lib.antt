-- Emitted: the numbers of the cells of some runs.
-- Keys: numbers of cells in their order.
-- Unions: the cells of runs, each once.
pub mod Emitted
pub mod Keys
pub mod Unions
