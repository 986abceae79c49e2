-- What an instruction on one object does to the table and to the chip.
pub mod Objects
pub mod Lines
