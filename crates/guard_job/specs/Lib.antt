-- A guarded script on a chip.
pub mod Events
pub mod Steps
pub mod Parts
