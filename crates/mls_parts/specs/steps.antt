-- What the functions of the crate do one step at a time. No public clause cites it.
pub mod Sharing
pub mod Results
pub mod Twins
pub mod Owners
pub mod MetBinders
