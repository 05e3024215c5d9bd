pub mod Relations
pub mod Clashes
pub mod Solved
pub mod Rooms
pub mod Solutions
pub mod Laws
pub mod steps
