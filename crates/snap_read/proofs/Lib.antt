pub mod Adding
pub mod Fronts
pub mod Rising
pub mod Sent
