mod Places
pub mod Outs
