-- What is found of a program's entries, and the report of it.
pub mod Findings
pub mod Cells
pub mod Report
pub mod Widths
