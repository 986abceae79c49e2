pub mod Common
mod Exchanges
mod Sets
mod Events
mod Blocks
mod Columns
mod Segments
pub mod Held
mod Rows
pub mod Stopping
