pub mod Results
pub mod ShownCells
