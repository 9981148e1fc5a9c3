pub mod Decimals
pub mod Numbers
pub mod Scaling
pub mod Spelling
pub mod Fronts
