pub mod Writers
pub mod Faults
pub mod Answering
