pub mod Apps
pub mod Building
pub mod Parsing
pub mod WordsRead
