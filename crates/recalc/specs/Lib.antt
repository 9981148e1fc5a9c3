pub mod CodedUnits
pub mod Evaluating
pub mod Recalculation
pub mod Units
