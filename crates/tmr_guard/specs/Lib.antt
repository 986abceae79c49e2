-- Guarded objects on a chip.
pub mod Reading
pub mod Steps
