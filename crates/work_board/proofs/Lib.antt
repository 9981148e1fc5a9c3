-- Totals: sums over the views of all passes. Distinct: distinct numbers below a bound are few.
-- Sharing: what both rules say of the passes, kept by each step. DrawSteps, MarkSteps: what each rule says alone.
-- Bits: what setting one bit does to the words. MarkEvents: a mark is an event of the Board machine.
-- Schedules: what every event of the Board machine keeps. Gathering: results at their places.
pub mod Totals
pub mod Distinct
pub mod Sharing
pub mod Schedules
pub mod DrawSteps
pub mod Gathering
pub mod Bits
pub mod MarkSteps
pub mod MarkEvents
