pub mod KnownNames
pub mod PlacedNames
pub mod FoundNames
pub mod NamesBelow
pub mod KeptDrafts
pub mod AddedParts
pub mod PlainSections
pub mod PlainTexts
