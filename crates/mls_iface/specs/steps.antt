pub mod Comparing
pub mod Going
pub mod Reading
