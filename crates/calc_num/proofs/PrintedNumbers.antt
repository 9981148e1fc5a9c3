-- How a number is printed, and that the text reads back.
-- Digits: the digits of a whole part and of a fraction as they are put.
-- RoundTrip: the reading of a printed text is the number.
pub mod Digits
pub mod RoundTrip
