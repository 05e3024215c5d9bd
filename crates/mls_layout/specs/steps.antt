-- What the functions of the crate do one step at a time. No public clause cites it.
pub mod Planned
pub mod Sources
pub mod Owned
pub mod Posable
pub mod TypeNodes
pub mod Walking
pub mod OwnNumbers
