pub mod Safe
pub mod Single
