-- Program files: their one spelling, and what is read of bytes.
pub mod Spelling
pub mod Reading
pub mod Opened
