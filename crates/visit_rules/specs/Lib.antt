pub mod Views
pub mod Visits
pub mod Tables
pub mod Again
pub mod Traces
pub mod KnownChanges
pub mod Differences
pub mod Mapping
