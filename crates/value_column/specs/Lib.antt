-- Lanes: a list of items by row, which ends where plain items alone follow.
pub mod Lanes
pub mod Rows
pub mod ValueRows
pub mod Sheets
pub mod Spans
