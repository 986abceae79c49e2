-- From operations to microprograms: the code of flows, what it does, and where the names of
-- an operation lie.
pub mod Where
pub mod FlowCode
pub mod Code
pub mod Emits
pub mod Does
pub mod Layout
pub mod Programs
pub mod Laying
pub mod Costs
pub mod Graphs
pub mod Totals
pub mod Entries
