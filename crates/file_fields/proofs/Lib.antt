pub mod Held
pub mod NameField
pub mod Padded
