pub mod TwoEntries
