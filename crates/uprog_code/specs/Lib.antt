-- Microprograms: what they are, what they issue, where their rows lie, and when they do an
-- operation.
pub mod Shape
pub mod Machine
pub mod OneStep
pub mod Count
pub mod Bound
pub mod Fits
pub mod Commands
pub mod Legal
pub mod Programs
pub mod Implements
pub mod Texts
pub mod Issued
