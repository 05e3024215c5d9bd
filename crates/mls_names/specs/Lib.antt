pub mod Resolution
pub mod ResolutionLaws
pub mod steps
