pub mod Folds
pub mod Lanes
pub mod Comparisons
pub mod Choosing
pub mod Counting
pub mod Signs
