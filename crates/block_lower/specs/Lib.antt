-- The loop program of a serial block.
pub mod Inputs
pub mod Choice
pub mod Held
pub mod Form
