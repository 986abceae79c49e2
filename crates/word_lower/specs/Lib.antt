-- Loop programs of serial blocks, and of the word operations that are no flows.
pub mod Programs
pub mod Places
pub mod Shapes
pub mod Lines
pub mod Forms
