pub mod Echoes
pub mod Operation
pub mod Summaries
