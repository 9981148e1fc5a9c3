-- Steps: what changes in steps as a row goes away from another. EndSteps, References: the ends of references do.
-- Forms: the forms of formulas are the same between rows.
pub mod Steps
pub mod EndSteps
pub mod References
pub mod Forms
