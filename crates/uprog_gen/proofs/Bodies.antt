-- The rows of a body's outputs, and its commands.
pub mod Outs
