pub mod Common
mod Names
mod Gathering
mod Bounds
mod Reading
mod Making
mod Rows
mod Facts
mod Folds
mod Stand
mod Visits
mod Starts
mod Ends
mod Carried
mod Fitting
mod Counting
mod Bodies
mod Constants
pub mod InRows
pub mod EachLast
mod InCells
mod OneCell
mod SameGraphs
