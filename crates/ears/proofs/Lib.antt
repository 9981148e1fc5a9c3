pub mod GoingOn
pub mod Meetings
pub mod Together
pub mod RunsMoved
