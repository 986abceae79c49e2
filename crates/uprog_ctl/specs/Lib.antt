-- What a controller does on a chip.
pub mod Events
pub mod Orders
pub mod Waves
pub mod Cursors
