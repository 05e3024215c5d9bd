pub mod Lines
pub mod PairLists
pub mod steps
