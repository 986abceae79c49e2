pub mod Growing
pub mod Lets
pub mod Outs
pub mod Known
pub mod GateLaws
