pub mod Environments
pub mod Failures
pub mod Metatheory
pub mod MovedDerivations
pub mod Rules
pub mod Worked
pub mod TreesOfTerms
