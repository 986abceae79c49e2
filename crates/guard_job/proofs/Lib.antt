pub mod Common
pub mod Due
pub mod Tallies
pub mod Sending
pub mod Left
pub mod Doing
pub mod Walking
pub mod Ending
