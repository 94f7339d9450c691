pub mod Readers
pub mod TermReading
pub mod FileReading
pub mod Known
pub mod Rooms
pub mod Printers
