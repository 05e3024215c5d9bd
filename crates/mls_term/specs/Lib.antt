pub mod Terms
pub mod Derivations
pub mod WellFormed
pub mod TypingLaws
