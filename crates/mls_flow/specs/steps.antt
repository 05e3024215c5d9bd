pub mod Losing
pub mod Numbering
