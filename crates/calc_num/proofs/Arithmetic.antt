-- What each operation comes to on sizes with their signs.
-- Signs: a number as a sign and a size.
-- Products: rounded products and quotients, and division in two steps.
-- Picks: ways of rounding, and what a division leaves.
-- Powers: repeated products.
-- Roots: the least root.
pub mod Signs
pub mod Products
pub mod Picks
pub mod Powers
pub mod Roots
