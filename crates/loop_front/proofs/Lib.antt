pub mod Common
mod Bodies
mod Built
mod Rounds
mod Clearing
pub mod Runs
pub mod Fronts
