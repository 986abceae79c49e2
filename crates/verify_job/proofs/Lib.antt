pub mod Found
pub mod Apart
pub mod Runs
