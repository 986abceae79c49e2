-- Guarded objects: each in three copies, which a vote makes equal again.
pub mod Named
pub mod Triples
pub mod Flips
pub mod Votes
pub mod Guarded
pub mod Survival
pub mod Report
pub mod FlipText
pub mod Laws
pub mod FlipLaws
