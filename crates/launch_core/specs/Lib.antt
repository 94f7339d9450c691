pub mod Launching
pub mod Memory
