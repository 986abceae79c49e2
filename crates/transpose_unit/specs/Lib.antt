-- Numbers in rows: the stage that holds the rows of one bank, and what the writes of an object
-- leave.
pub mod Stage
pub mod Exchange
pub mod Laws
pub mod Stopped
pub use Rattle.dram_model.specs.Elements
