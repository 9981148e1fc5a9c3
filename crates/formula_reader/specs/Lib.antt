pub mod Unread
pub mod Leaves
pub mod Corners
pub mod Operators
pub mod Signs
pub mod Operands
pub mod Reading
pub mod Fields
