pub mod Common
mod Meeting
mod Small
mod Counting
mod Loading
mod Running
mod CaseFits
mod Means
mod Summing
mod Making
mod Going
mod Fitting
pub mod Same
