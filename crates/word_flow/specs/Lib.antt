-- Loop programs of the word operations that are flows.
pub mod Plans
pub mod Programs
pub mod Places
pub mod Bodies
