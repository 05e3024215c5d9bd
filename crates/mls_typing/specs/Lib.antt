pub mod InferenceLaws
pub mod Runs
pub mod Typed
