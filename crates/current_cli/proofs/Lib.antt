pub mod OneFile
pub mod Ran
pub mod Ended
pub mod Running
pub mod Found
pub mod Caused
pub mod Whole
pub mod Unread
