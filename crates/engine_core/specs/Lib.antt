pub mod State
pub mod Evaluated
pub mod Answers
pub mod Plans
pub mod inside
