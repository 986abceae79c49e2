pub mod Meets
pub mod Laws
