pub mod Queues
pub mod Targets
pub mod Asked
