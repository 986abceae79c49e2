pub mod Walks
pub mod Found
pub mod Complete
pub mod Steps
