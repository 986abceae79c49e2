-- A large valid job from a number: its cases, the words of each, where it stands on the chip and
-- what its line tells; the programs and steps of all, and what they leave.
pub mod Cases
pub mod Words
pub mod Layout
pub mod Sums
pub mod OneCase
pub mod Steps
pub mod Done
