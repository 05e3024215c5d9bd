pub mod Entries
pub mod Environments
pub mod FirstBindings
pub mod KnownTypes
pub mod Lines
pub mod SameEntries
pub mod SignatureLaws
pub mod ValidSignatures
