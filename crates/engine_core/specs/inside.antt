pub mod Bare
pub mod Drafts
pub mod Keeping
pub mod Planning
pub mod Opening
