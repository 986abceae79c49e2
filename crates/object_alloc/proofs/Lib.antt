pub mod Common
mod Bases
pub mod Tables
mod Least
pub mod Records
mod Objects
pub mod Images
mod Pieces
pub mod Rows
pub mod Exact
mod ExactAnswers
mod Bits
pub mod Written
