pub mod Common
pub mod Found
mod Listing
pub mod Keeping
pub mod Stepping
pub mod Printing
pub mod Alone
pub mod Rising
pub mod Comings
pub mod Waving
pub mod Lines
pub mod Entries
pub mod Rows
pub mod Counting
pub mod Granting
