-- What words spell, and that printed addresses read back.
-- Digits: the value of a digit.
-- Columns: the letters of columns.
-- Joined: a sheet before an address.
-- Inside: what is spelled lies inside the sheets.
-- RoundTrip: printed cells and areas read back.
pub mod Digits
pub mod Columns
pub mod Joined
pub mod Inside
pub mod RoundTrip
