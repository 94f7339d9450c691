pub mod Reports
pub mod Lines
pub mod LiveJobs
pub mod LastShown
pub mod FaultLines
pub mod Controls
pub mod inside
