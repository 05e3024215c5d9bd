pub mod Environments
pub mod Heads
pub mod Layers
pub mod Meeting
pub mod Signs
pub mod States
pub mod Uses
pub mod Visits
