-- What the machine does to a chip, and what it shows of itself.
pub mod Walks
pub mod Granted
pub mod Opening
pub mod Image
pub mod Machine
pub mod State
pub mod Shown
pub mod Steps
pub mod Outcome
