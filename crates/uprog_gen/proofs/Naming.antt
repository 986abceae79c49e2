-- Where the names of an operation lie, and that its statements meet the rules there.
pub mod Lays
pub mod Lies
pub mod Among
pub mod Scene
pub mod Placed
pub mod LaidOut
pub mod Stage
pub mod Ready
pub mod StageAt
