pub mod Rows
pub mod Kept
pub mod Refusals
pub mod inside
