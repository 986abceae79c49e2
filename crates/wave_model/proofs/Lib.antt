pub mod Waves
pub mod Live
pub mod Turning
pub mod Prefixes
pub mod Sums
