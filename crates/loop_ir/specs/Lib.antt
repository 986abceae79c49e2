-- Loop programs: what they are, what they do to rows, what they keep, and when they do a statement.
pub mod Flows
pub mod FlowTests
pub mod Plain
pub mod Loops
pub mod Spots
pub mod Outputs
pub mod WellFormed
pub mod Same
pub mod States
pub mod Chains
pub mod Costs
pub mod Limits
pub mod Statements
pub mod Lowered
