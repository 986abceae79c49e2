-- Waves: the queues of banks, and the order in which they take turns.
pub mod Schedule
pub mod Laws
