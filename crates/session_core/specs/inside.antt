pub mod Opening
pub mod Rounds
pub mod ReadLines
