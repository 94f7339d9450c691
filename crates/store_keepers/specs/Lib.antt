pub mod Kinds
pub mod inside
