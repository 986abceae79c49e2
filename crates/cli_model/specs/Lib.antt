-- How a command goes: its steps, how it may end, and what stands then.
pub mod World
pub mod Waves
pub mod Steps
pub mod Stands
pub mod Status
pub mod Foreseen
pub mod Ends
pub mod Faultless
pub mod Plan
pub mod Runs
pub mod Reads
pub mod Laws
