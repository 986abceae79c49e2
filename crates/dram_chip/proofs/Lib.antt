pub mod Wordlines
pub mod Cells
pub mod Banks
pub mod Begun
mod Placed
