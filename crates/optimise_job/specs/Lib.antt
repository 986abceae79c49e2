-- What becomes of a program's entries where straight lines are offered at one width.
pub mod Outcomes
pub mod Promise
pub mod Report
