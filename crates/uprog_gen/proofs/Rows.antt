-- What commands and rounds do to the rows of a bank.
pub mod Issued
pub mod Rounds
pub mod Alive
pub mod Chained
pub mod Like
pub mod States
pub mod Named
pub mod Ranges
pub mod Laid
pub mod Agree
pub mod Numbers
pub mod Top
