-- The operations of the tests.
pub mod Xor
pub mod Dup
pub mod Waves
