-- Straight lines of row commands at one width, and entries that have one.
pub mod Lines
pub mod Code
pub mod Widths
