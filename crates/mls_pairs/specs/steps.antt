-- What the functions of the crate do one step at a time. No public clause cites it.
pub mod Needs
pub mod Growth
pub mod Rounds
pub mod ShortLists
pub mod Deleting
pub mod Reasons
