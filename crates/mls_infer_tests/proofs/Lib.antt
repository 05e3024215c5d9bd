pub mod TestFields
pub mod TestRegions
pub mod TestTerms
