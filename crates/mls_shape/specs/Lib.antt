pub mod Determinised
pub mod Dropped
pub mod Alike
pub mod Minimised
pub mod Simplified
pub mod steps
