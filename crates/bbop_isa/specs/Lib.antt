-- What a script says.
pub mod Lines
pub mod Numbers
pub mod Words
pub mod Operands
pub mod Forms
pub mod Script
pub mod Reading
pub mod Laws
pub mod Kinds
