-- A recorder of a chip's events, and trace files read in place.
pub mod Tape
pub mod Places
pub mod Widths
pub mod Opened
