pub mod Lines
pub mod Told
pub mod Plans
pub mod Reported
pub mod Moving
