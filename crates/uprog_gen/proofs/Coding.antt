-- The code as it is emitted: its pieces, their sizes, and that it is legal.
pub mod FlowMaps
pub mod FlowSizes
pub mod Emitted
pub mod Legal
pub mod Joined
