-- That the loop programs of an operation mean it, and the entry does them.
pub mod Numbers
pub mod Walked
pub mod Meant
pub mod Needs
pub mod Entries
pub mod Taken
