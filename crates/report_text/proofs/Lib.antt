pub mod Reported
pub mod LastShown
pub mod ShownJobs
