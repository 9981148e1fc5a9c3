-- Alike: the rows in which a moved formula has one relative form.
pub mod Alike
