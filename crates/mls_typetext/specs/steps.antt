-- What the functions of the crate do one step at a time. No public clause cites it.
pub mod EndTable
pub mod EndStacks
pub mod Pieces
pub mod PieceMachine
pub mod PieceReaders
pub mod Items
pub mod NameMachine
pub mod LabelLists
pub mod NameReaders
pub mod Members
pub mod Variables
pub mod Measuring
pub mod Laying
pub mod ReadPieces
