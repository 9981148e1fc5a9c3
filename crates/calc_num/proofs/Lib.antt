-- Where what is shown stands.
-- ReadNumbers: how digits make a size, and which texts are numbers.
-- PrintedNumbers: how a number is printed, and that the text reads back.
-- Arithmetic: what each operation comes to on sizes with their signs.
-- Examples: worked examples.
pub mod ReadNumbers
pub mod PrintedNumbers
pub mod Arithmetic
mod Examples
