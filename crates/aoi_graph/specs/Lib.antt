pub mod Gates
pub mod Blocks
pub mod Making
