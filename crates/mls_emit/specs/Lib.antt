pub mod Derivable
pub mod Derived
pub mod Drafts
pub mod PlainSections
