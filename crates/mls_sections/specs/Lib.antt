pub mod KnownFirsts
pub mod KnownNames
pub mod SectionsGoing
