-- Scans: a query's nodes, and what is done for them.
pub mod Queries
pub mod Running
pub mod Answers
pub mod Digits
pub mod Reading
pub mod Parsing
