pub mod Merged
pub mod ReadAutomata
pub mod ReadTypes
pub mod Smallest
pub mod steps
