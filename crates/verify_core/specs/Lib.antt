pub mod Starts
pub mod SymbolicRuns
pub mod Verdicts
