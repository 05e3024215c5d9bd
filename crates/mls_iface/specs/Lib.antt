pub mod Declarations
pub mod Faults
pub mod FaultPlaces
pub mod Interfaces
pub mod Laws
pub mod Matches
pub mod Signatures
pub mod steps
