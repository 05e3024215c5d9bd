pub mod TestLists
