-- The texts that say a program: its listing, and its costs.
pub mod Listing
pub mod Costs
pub mod Widths
