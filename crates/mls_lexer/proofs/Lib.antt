mod Example
pub mod Follows
pub mod Gaps
pub mod Longest
pub mod Machine
pub mod Pieces
pub mod Places
pub mod Readings
pub mod Shapes
pub mod Shifts
pub mod Terminals
pub mod TextOrder
pub mod TokensWithin
pub mod Total
pub mod Values
pub mod Writings
