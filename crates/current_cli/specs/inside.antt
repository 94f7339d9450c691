pub mod FileFound
pub mod Parts
