-- OneOrTwo: functions of one or two numbers, by those. Tests: AND and OR by what is known of a list.
pub mod OneOrTwo
pub mod Tests
