-- What the functions of the crate do one step at a time. No public clause cites it.
pub mod Tables
pub mod PairRules
pub mod Rules
pub mod Names
pub mod Walks
pub mod Clauses
pub mod Readings
pub mod GivenLines
pub mod Guesses
pub mod Environments
