-- WaveLists: lists of cells, kept as runs.
-- CellLists: the cells of runs, in a list.
pub mod CellLists
pub mod WaveLists
