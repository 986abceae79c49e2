pub mod Common
pub mod Setting
pub mod Sums
pub mod Lists
pub mod Bitwise
pub mod Passes
pub mod Pieces
pub mod Filled
pub mod Operations
pub mod Lowering
pub mod Statements
pub mod Own
pub mod LikeTemplates
pub mod Append
pub mod Owners
pub mod BodyRules
pub mod Commands
mod Listed
