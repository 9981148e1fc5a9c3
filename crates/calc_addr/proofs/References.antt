-- References of formulas.
-- Parts: what the parts of a text in brackets are.
-- EndsInOrder: two ends put in order.
-- Tests: the test of references says which ones a formula can have.
-- Inside: what is spelled is one of these.
-- RoundTrip: printed references read back.
pub mod Parts
pub mod EndsInOrder
pub mod Tests
pub mod Inside
pub mod RoundTrip
