-- How the code of loop programs runs, from one place to the next.
pub mod Goes
pub mod Runs
pub mod Held
pub mod Flowed
pub mod FlowStep
pub mod Program
