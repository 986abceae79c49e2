-- The flow of a loop program: how each step becomes one, and what the flow keeps of the steps.
pub mod Front
pub mod Like
pub mod FlowOfSteps
pub mod Moments
