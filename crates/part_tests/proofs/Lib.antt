pub mod Xor
pub mod Dup
pub mod Runs
pub mod Waves
