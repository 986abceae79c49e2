-- How many commands the word operations take.
pub mod Kinds
pub mod Exact
pub mod Counted
pub mod Blocks
