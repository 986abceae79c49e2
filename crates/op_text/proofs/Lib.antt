mod Texts
mod Worked
pub mod Forward
pub mod Back
pub mod Complete
pub mod Allowed
pub mod Link
pub mod Rows
pub mod Operations
pub mod Places
pub mod Unique
pub mod Bounds
pub mod Once
pub mod Loops
pub mod Meeting
