pub mod Questions
pub mod Causes
pub mod Ends
pub mod Migrating
pub mod Reading
pub mod inside
