-- Languages: a grammar and the rules beside it, the first fault of a text, and their laws.
pub mod Machine
pub mod Laws
