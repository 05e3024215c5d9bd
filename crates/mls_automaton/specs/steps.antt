pub mod Numbers
pub mod Searching
pub mod Keeping
pub mod Combining
pub mod Merging
pub mod Truncating
pub mod BookParts
