-- Command traces: how events are spelled and read, what a recorder keeps, and what a replay leaves.
pub mod Spelling
pub mod Reading
pub mod Recorder
pub mod Replay
pub mod Laws
