pub mod States
pub mod Criterions
