-- Counts of faults, and calls some of which are to fail.
pub mod Counts
pub mod Plans
