pub mod Pairs
pub mod Failures
pub mod Walks
pub mod Searches
pub mod Verdicts
pub mod steps
