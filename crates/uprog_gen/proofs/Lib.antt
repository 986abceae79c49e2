pub mod Common
-- That the code of loop programs does them, and that the loop programs of an operation mean it.
pub mod Running
pub mod Bodies
pub mod Rows
pub mod Coding
pub mod Naming
pub mod Meaning
pub mod Costs
