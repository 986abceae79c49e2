pub mod Common
pub mod Tapes
pub mod Checking
pub mod Places
pub mod Replaying
pub mod Reread
