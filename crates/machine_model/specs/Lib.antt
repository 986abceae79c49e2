-- The word machine: what an instruction comes to in numbers and in rows, and the report.
pub mod Columns
pub mod Routines
pub mod Places
pub mod Refusals
pub mod Steps
pub mod Agrees
pub mod Script
pub mod Pieces
pub mod Report
pub mod Opened
pub mod Laws
