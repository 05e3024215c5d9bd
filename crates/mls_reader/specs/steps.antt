-- What the functions of the crate do one step at a time. No public clause cites it.
pub mod Arranging
pub mod GivenTwice
pub mod Linking
pub mod PieceMachine
pub mod PieceReaders
pub mod Pieces
pub mod SpellingOrder
pub mod Spellings
pub mod Todos
pub mod Told
