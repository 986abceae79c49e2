pub mod Common
pub mod Taking
pub mod Single
pub mod Loops
pub mod Lengths
pub mod Ending
pub mod Counts
