mod Again
mod Worked
mod Short
mod Sizes
mod Loops
mod Heads
