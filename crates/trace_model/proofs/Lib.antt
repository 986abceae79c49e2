pub mod Records
pub mod Legal
pub mod Events
pub mod Files
pub mod Scripts
pub mod Worked
