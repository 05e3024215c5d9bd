pub mod Entries
pub mod Environments
pub mod Laws
pub mod ModuleFaults
pub mod steps
