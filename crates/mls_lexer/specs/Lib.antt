pub mod Laws
pub mod Spellings
pub mod Tokens
pub mod steps
