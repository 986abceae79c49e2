-- A body: the row commands that give a few output rows the values of a majority graph.
pub mod Rows
pub mod Legal
pub mod Body
pub mod Length
pub mod Numbering
pub mod Symbolic
pub mod Table
pub mod Phases
pub mod Order
pub mod Known
pub mod Found
pub mod Layouts
pub mod Held
