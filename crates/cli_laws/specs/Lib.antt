-- What two commands promise together, and what the files at entry decide.
pub mod Costs
pub mod Faults
pub mod Replays
pub mod Unique
pub mod Verified
