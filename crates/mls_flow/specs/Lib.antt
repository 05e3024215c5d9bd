pub mod Admissible
pub mod Claims
pub mod Needs
pub mod Pairs
pub mod Separated
pub mod Simulations
pub mod Tables
pub mod steps
