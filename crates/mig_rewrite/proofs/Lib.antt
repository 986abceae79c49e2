pub mod Common
pub mod Below
pub mod Once
pub mod Numbered
pub mod Planning
pub mod Steps
pub mod Marks
pub mod Counting
pub mod Keeping
mod Agreeing
mod Offering
