pub mod Common
pub mod Running
pub mod Naming
pub mod Counting
pub mod Nodewise
pub mod Stopping
pub mod Until
pub mod Failing
pub mod Answering
mod Taking
mod Spelling
mod Ending
