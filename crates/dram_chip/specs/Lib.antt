-- How a chip is kept: the words of its rows, bank by bank.
pub mod Rows
pub mod ChipRows
pub mod Begun
pub mod Seen
pub mod ChipWidth
pub mod FailingCalls
