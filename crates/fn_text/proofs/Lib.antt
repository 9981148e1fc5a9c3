-- Repeating: a text so many times. Splitting: characters that are taken off a text.
pub mod Repeating
pub mod Splitting
pub mod Joining
pub mod Occurring
