pub mod Levels
pub mod Filling
pub mod Orders
pub mod Pieces
pub mod Names
