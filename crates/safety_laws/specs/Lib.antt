-- Rows that stay as they were where the chip fails.
pub mod Stopped
