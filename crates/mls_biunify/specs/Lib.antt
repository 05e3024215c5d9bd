pub mod Live
pub mod steps
