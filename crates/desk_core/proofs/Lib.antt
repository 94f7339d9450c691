pub mod Accepted
pub mod Committable
pub mod Openable
pub mod Tables
pub mod Calls
pub mod Printable
pub mod Within
pub mod Held
