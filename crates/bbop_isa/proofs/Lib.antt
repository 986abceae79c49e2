pub mod Parted
mod Newlines
pub mod Worded
pub mod Gathered
pub mod Checked
pub mod Followed
pub mod Terming
pub mod Spelling
pub mod Numbered
pub mod Kinded
pub mod Meant
