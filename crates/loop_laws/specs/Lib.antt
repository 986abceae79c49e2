-- When every round of a loop program keeps the rules, so that code can be made of it.
pub mod Rooms
pub mod Forms
pub mod Laws
