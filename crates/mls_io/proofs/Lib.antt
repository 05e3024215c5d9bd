mod AskingLaws
pub mod CountLaws
mod ListedLaws
mod OutputLaws
mod PathLaws
pub mod ShelfLaws
pub mod SinkLaws
