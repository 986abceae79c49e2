-- A script over a recorder: its steps, and what the recorder tells of it.
pub mod Below
pub mod Telling
