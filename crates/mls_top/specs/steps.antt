-- What the functions of the crate do one step at a time. No public clause cites it.
pub mod Answering
pub mod CommandLines
pub mod Fetching
