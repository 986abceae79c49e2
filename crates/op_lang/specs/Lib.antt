pub mod Tokens
pub mod Seen
pub mod Reading
pub mod Judging
pub mod Pieces
pub mod Parts
pub mod Parsing
pub mod Counting
