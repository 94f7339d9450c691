pub mod Causes
pub mod Connections
pub mod Lines
pub mod Listening
pub mod Memory
pub mod Known
